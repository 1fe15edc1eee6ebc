-- The text of an answer: the bytes of a text, each for itself but for the fields of a reply.
--
--   Lists                 the output lists: four of numbers, and one of bytes
--   lists a b c d e       these
--   is_within a z b        whether b is one of a..z
--   letters_pieces s       the letters s, `-` for none
--   bytes_pieces b s       the bytes s as numbers where b is `4`, otherwise as letters
--   long_list k l          the k-th of the lists of 32 numbers that follow the first four numbers of l, the first being 0
--   number_pieces r b      what b stands for where it is no output list: a long list, a number, the signed number, or b itself
--   field_pieces r ls b    what b stands for; `9` for the first numbers, as many as the second of the lengths
--   answer_pieces r ls s   what the bytes of s stand for, one after another
--   ReplyPut o o'         the answer of some reply put into o gives o'
--   AnswerPut l o o'      so does the answer to the line l: a line that begins with `#` as it stands, any other the answer of a reply
--   AnswerLinePut n l o o'   that and a newline; nothing where n says that there is no line
use Rattle.std.specs.Prelude.{◌≡◌, refl, ◌⊎◌, Bool, true, false, cond, List, [], ◌∷◌, ◌++◌, ℕ, ◌+◌, ◌-◌, ◌*◌, ◌<◌, eqb, leb, ltb, negsuc, length, get_or, take, drop}
use Rattle.words.specs.Letters.{decimal}
use Rattle.text_printing.specs.Printing.{Output, put, put_all, signed_pieces, entry_pieces, list_pieces}
use Rattle.console_replies.specs.declared.Reply.{Reply}

pub record Lists : Type 0 where
  pub numbers : List (List ℕ)
  pub bytes : List ℕ

abbrev pub lists : List ℕ → List ℕ → List ℕ → List ℕ → List ℕ → Lists
lists a b c d e = record { numbers = a ∷ b ∷ c ∷ d ∷ []; bytes = e }

unfoldable pub is_within : ℕ → ℕ → ℕ → Bool
is_within a z b = cond (ltb b a) false (leb b z)

unfoldable pub letters_pieces : List ℕ → List (List ℕ)
letters_pieces [] = (45 ∷ []) ∷ []
letters_pieces (b ∷ s) = (b ∷ s) ∷ []

unfoldable pub bytes_pieces : ℕ → List ℕ → List (List ℕ)
bytes_pieces b s = cond (eqb b 52) (list_pieces s) (letters_pieces s)

unfoldable pub long_list : ℕ → List ℕ → List ℕ
long_list k l = take 32 (drop (4 + 32 * k) l)

unfoldable pub number_pieces : Reply → ℕ → List (List ℕ)
number_pieces r b =
    cond (is_within 54 56 b) (list_pieces (long_list (b - 54) r.numbers))
    (cond (is_within 65 90 b) (decimal (get_or r.numbers (b - 65) 0) ∷ [])
    (cond (eqb b 43) (signed_pieces r.signed) ((b ∷ []) ∷ [])))

unfoldable pub field_pieces : Reply → Lists → ℕ → List (List ℕ)
field_pieces r ls b =
    cond (is_within 48 51 b) (list_pieces (take (get_or r.lengths (b - 48) 0) (get_or ls.numbers (b - 48) [])))
    (cond (is_within 52 53 b) (bytes_pieces b (take (get_or r.lengths 4 0) ls.bytes))
    (cond (eqb b 57) (list_pieces (take (get_or r.lengths 1 0) r.numbers))
    (number_pieces r b)))

unfoldable pub answer_pieces : Reply → Lists → List ℕ → List (List ℕ)
answer_pieces r ls [] = []
answer_pieces r ls (b ∷ s) = field_pieces r ls b ++ answer_pieces r ls s

pub record ReplyPut (o o' : Output) : Type 0 where
  pub reply : Reply
  pub outputs : Lists
  pub text : List ℕ
  pub is : o' ≡ put_all (answer_pieces reply outputs text) o

-- the line begins with `#`
abbrev pub OwnAnswer : List ℕ → Type 0
OwnAnswer line = (0 < length line) × (get_or line 0 0 ≡ 35)

abbrev pub AnswerPut : List ℕ → Output → Output → Type 0
AnswerPut line o o' = (OwnAnswer line × (o' ≡ put line o)) ⊎ ((¬ OwnAnswer line) × ReplyPut o o')

abbrev pub AnswerLinePut : Bool → List ℕ → Output → Output → Type 0
AnswerLinePut true line o o' = o' ≡ o
AnswerLinePut false line o o' = (answered : Output) × AnswerPut line o answered × (o' ≡ put (10 ∷ []) answered)

-- `A 0 +` and `end`, with the number 7, the signed number -2 and two entries of the first list
abbrev example : Reply
example = record { choice = 0; numbers = 7 ∷ []; signed = negsuc 1; lengths = 2 ∷ [] }

fields-example : answer_pieces example (lists (5 ∷ 6 ∷ 9 ∷ []) [] [] [] []) (65 ∷ 32 ∷ 48 ∷ 32 ∷ 43 ∷ [])
    ≡ decimal 7 ∷ (32 ∷ []) ∷ decimal 5 ∷ (44 ∷ []) ∷ decimal 6 ∷ (32 ∷ []) ∷ (45 ∷ []) ∷ decimal 2 ∷ []
unfolding is_within number_pieces field_pieces answer_pieces signed_pieces list_pieces entry_pieces
fields-example = refl

bytes-example : answer_pieces example (lists [] [] [] [] []) (101 ∷ 110 ∷ 100 ∷ []) ≡ (101 ∷ []) ∷ (110 ∷ []) ∷ (100 ∷ []) ∷ []
unfolding is_within number_pieces field_pieces answer_pieces
bytes-example = refl
