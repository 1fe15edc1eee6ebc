-- What single steps of unranking and ranking keep. Heights and labels free stay where 3 · height + free is at most 56: the table has
-- their numbers of ways.
--
--   Chosen height free place item ..    the way to go on at the place begins with the item; what follows is the one at place' after it
--   Unranking W a b next ..             of the word W the items before the place `next` are written over the beginning of the list a, giving b;
--                                       the others are the way to go on at the place
--   Passed height free item w ..        of the ways to go on, `before` come before all that begin with the item
use Rattle.std.specs.Prelude.{◌≡◌, List, ◌∷◌, ◌++◌, ℕ, suc, ◌+◌, ◌*◌, ◌≤◌, ◌<◌, length}
use Rattle.words.specs.Outputs.{overwrite}
use Rattle.words.specs.Shape.{Fits}
use Rattle.listing.specs.Listing.{ways}
use Rattle.listing.specs.Ranking.{unrank, rank}

pub record Chosen (height free place item height' free' place' : ℕ) : Type 0 where
  pub first : (m : ℕ) → unrank (suc m) height free place ≡ item ∷ unrank m height' free' place'
  pub region : 3 * height' + free' ≤ 56
  pub within : place' < ways height' free'
  pub falls : height' + free' < height + free

pub record Unranking (W a b : List ℕ) (next height free place : ℕ) : Type 0 where
  pub done : List ℕ
  -- a bound on the items to come
  pub left : ℕ
  pub whole : W ≡ done ++ unrank left height free place
  pub next_is : next ≡ length done
  pub list_is : b ≡ overwrite done a
  pub enough : height + free ≤ left
  pub room : next + left ≤ length a
  pub region : 3 * height + free ≤ 56
  pub within : place < ways height free

pub record Passed (height free item : ℕ) (w : List ℕ) (before height' free' : ℕ) : Type 0 where
  pub rank_is : rank height free (item ∷ w) ≡ before + rank height' free' w
  pub fits : Fits height' free' w
  pub region : 3 * height' + free' ≤ 56
