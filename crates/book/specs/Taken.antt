-- What take promises (document 01, "Take"). Lists named a are as they were lent, lists named c as they are handed back.
--
--   TakePromise b tick t a0 a1 aw answer b' c0 c1 cw      the answer, the book b' and the lists that a take leaves, from the book b and the lists before it
use Rattle.std.specs.Prelude.{◌≡◌, List, ℕ, length, Result}
use Rattle.listing.specs.Position.{word_at}
use Rattle.listing.specs.Diagrams.{diagram_at}
use Rattle.book.specs.declared.types.Book.{Book}
use Rattle.refusals.specs.declared.Refusal.{Refusal}
use Rattle.book.specs.declared.types.Taken.{Taken}
use Rattle.book.specs.Calls.{due, take_answer, take_book, take_list}

pub record TakePromise (b : Book) (tick t : ℕ) (a0 a1 aw : List ℕ) (answer : Result Taken Refusal) (b' : Book) (c0 c1 cw : List ℕ) : Type 0 where
  pub answered : answer ≡ take_answer b tick t (length a0) (length a1) (length aw)
  pub left : b' ≡ take_book b tick t (length a0) (length a1) (length aw)
  pub s0_is : c0 ≡ take_list b tick t (length a0) (length a1) (length aw) (diagram_at b.size (due b t)).black a0
  pub s1_is : c1 ≡ take_list b tick t (length a0) (length a1) (length aw) (diagram_at b.size (due b t)).white a1
  pub word_is : cw ≡ take_list b tick t (length a0) (length a1) (length aw) (word_at b.size (due b t)) aw
