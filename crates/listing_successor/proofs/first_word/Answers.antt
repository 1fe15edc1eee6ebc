-- Where U leads to no end, T does.
use Rattle.std.proofs.Common.{◌≡◌, sym, ap, ◌∙◌}
use Rattle.listing_successor.specs.Successor.{state_after_first, can_end, first_word}
use Rattle.listing_successor_states.specs.declared.StackState.{StackState}
use Rattle.listing_successor.proofs.first_word.Goals as goal

pub returns-then-can_end : goal.returns-then-can_end
unfolding first_word
returns-then-can_end c =
    let tried : c.can_end.result ≡ can_end (state_after_first c.args.n 0).height (state_after_first c.args.n 0).free = c.can_end.ensures ∙ ap (λ (l : StackState). can_end l.height l.free) c.state_after_first-u.ensures in
    rw (sym tried ∙ c.if-can_end.true) c.least_word.ensures

pub returns : goal.returns
unfolding first_word
returns c =
    let tried : c.can_end.result ≡ can_end (state_after_first c.args.n 0).height (state_after_first c.args.n 0).free = c.can_end.ensures ∙ ap (λ (l : StackState). can_end l.height l.free) c.state_after_first-u.ensures in
    rw (sym tried ∙ c.if-can_end.false) c.least_word-2.ensures
