-- The conditions of a valid book on its heads.
--
--   heads_valid h   the size is 1..50, the number of shares 1..32, at most 65,535 tickets are issued, and the latest tick is below 2^48
use Rattle.std.specs.Prelude.{Bool, ◌^◌, leb, ltb}
use Rattle.book.specs.declared.types.Heads.{Heads}
use Rattle.book.specs.Valid.{both, among}

abbrev pub heads_valid : Heads → Bool
heads_valid h = both (both (among 50 h.size) (among 32 h.shares)) (both (leb h.issued 65535) (ltb h.latest (2 ^ 48)))
