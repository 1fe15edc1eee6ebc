-- The two calls write the words that begin with U and those that begin with T, which together are the listing.
use Rattle.std.proofs.Common.{arith, refl}
use Rattle.lists.specs.Ranges.{OneTo}
use Rattle.listing_plain_walk.proofs.Sizes.{first-room, wrote_U, second-room, wrote-both}
use Rattle.listing_plain_walk.proofs.plain_walk.Goals as goal

pub end_or_pop-end-requires : goal.end_or_pop-end-requires
end_or_pop-end-requires c =
    let size : OneTo 9 c.args.n = (omega arith, omega arith) in
    first-room c.args.n size c.args.out.now c.if-out-lt1024.false _ refl

pub returns-then-size-lt3 : goal.returns-then-size-lt3
returns-then-size-lt3 c =
    let size : OneTo 9 c.args.n = (omega arith, omega arith) in
    wrote_U c.args.n size c.args.out.now c.if-out-lt1024.false _ _ _ _ c.end_or_pop-end.ensures c.if-size-lt3.true

pub end_or_pop-requires : goal.end_or_pop-requires
end_or_pop-requires c =
    let size : OneTo 9 c.args.n = (omega arith, omega arith) in
    let p = c.end_or_pop-end in
    second-room c.args.n size c.args.out.now c.if-out-lt1024.false _ _ _ _ p.ensures c.if-size-lt3.false p.auto.out p.auto.word

pub returns : goal.returns
returns c =
    let size : OneTo 9 c.args.n = (omega arith, omega arith) in
    let p = c.end_or_pop-end in
    wrote-both c.args.n size c.args.out.now c.if-out-lt1024.false _ _ _ _ p.ensures c.if-size-lt3.false p.auto.out p.auto.word _ _ _ c.end_or_pop.ensures
