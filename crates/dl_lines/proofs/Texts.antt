-- The first line of a text, by what was read of it.
use Rattle.std.proofs.Common.{◌≡◌, ◌≢◌, ℕ, ◌+◌, ◌<◌, ◌≤◌, ◌==◌, Bool, true, false, not, cond, Option, Some, None, List, [], ◌∷◌, ◌++◌, All, length, take, get_or, refl, sym, ap, ◌∙◌, subst, append_assoc, append-nil, length-take, get_or-take, arith}
use Rattle.std.specs.List.{onto_first, position, position_or_len}
use Rattle.std.specs.Io.KnownBytes.{Consumes, IsAtEnd}
use Rattle.std.proofs.lemmas.Bool.{ne_eqb, eqb-true, eqb-false, ltb-false}
use Rattle.std.proofs.lemmas.List.{take_more}
use Rattle.std.proofs.lemmas.List.Elements.{All-nil, All-cons, All-head, All-tail, All-append, All-from_get_or}
use Rattle.std.proofs.lemmas.List.Quantifiers.{position-Some}
use Rattle.dl_lines.specs.Lines.{lines_of, TakesLines, IsNextTooLong}

-- a byte that is no line feed begins the first line
other_byte : (x : ℕ) (bytes : List ℕ) → x ≢ 10 → lines_of (x ∷ bytes) ≡ onto_first x (lines_of bytes)
other_byte x bytes ne = ap (λ b. cond b ([] ∷ lines_of bytes) (onto_first x (lines_of bytes))) (ne_eqb x 10 ne)

-- what stands before the first line feed is the first line
pub lines_feed : (line rest : List ℕ) → All (λ b. b ≢ 10) line → lines_of (line ++ 10 ∷ rest) ≡ line ∷ lines_of rest
lines_feed [] rest plain = refl
lines_feed (x ∷ line) rest plain =
    other_byte x (line ++ 10 ∷ rest) (All-head (λ b. b ≢ 10) x line plain) ∙ ap (onto_first x) (lines_feed line rest (All-tail (λ b. b ≢ 10) x line plain))

-- a text with no line feed
pub lines_last : (x : ℕ) (line : List ℕ) → All (λ b. b ≢ 10) (x ∷ line) → lines_of (x ∷ line) ≡ (x ∷ line) ∷ []
lines_last x [] plain = other_byte x [] (All-head (λ b. b ≢ 10) x [] plain)
lines_last x (y ∷ line) plain =
    other_byte x (y ∷ line) (All-head (λ b. b ≢ 10) x (y ∷ line) plain) ∙ ap (onto_first x) (lines_last y line (All-tail (λ b. b ≢ 10) x (y ∷ line) plain))

-- a first line that begins so
abbrev BeginsLine : List ℕ → List ℕ → Type 0
BeginsLine front text = (line : List ℕ) × (others : List (List ℕ)) × (lines_of text ≡ line ∷ others) × (length front ≤ length line)

begins_more : (x : ℕ) (front : List ℕ) (lines : List (List ℕ)) (text : List ℕ) → lines_of text ≡ onto_first x lines
    → ((line : List ℕ) × (others : List (List ℕ)) × (lines ≡ line ∷ others) × (length front ≤ length line)) → BeginsLine (x ∷ front) text
begins_more x front lines text at begins =
    (x ∷ begins.0, begins.1, at ∙ ap (onto_first x) begins.2, omega (arith, begins.3))

onto_some : (x : ℕ) (lines : List (List ℕ)) → (line : List ℕ) × (others : List (List ℕ)) × (onto_first x lines ≡ line ∷ others) × (1 ≤ length line)
onto_some x [] = (x ∷ [], [], refl, omega arith)
onto_some x (line ∷ others) = (x ∷ line, others, refl, omega arith)

-- what has no line feed is of one line
pub lines_long : (x : ℕ) (front rest : List ℕ) → All (λ b. b ≢ 10) (x ∷ front) → BeginsLine (x ∷ front) ((x ∷ front) ++ rest)
lines_long x [] rest plain =
    let some = onto_some x (lines_of rest) in
    (some.0, some.1, other_byte x rest (All-head (λ b. b ≢ 10) x [] plain) ∙ some.2, some.3)
lines_long x (y ∷ front) rest plain =
    begins_more x (y ∷ front) (lines_of ((y ∷ front) ++ rest)) ((x ∷ y ∷ front) ++ rest) (other_byte x ((y ∷ front) ++ rest) (All-head (λ b. b ≢ 10) x (y ∷ front) plain))
    (lines_long y front rest (All-tail (λ b. b ≢ 10) x (y ∷ front) plain))

plain_case : (x : ℕ) (xs : List ℕ) (b : Bool) → (x == 10) ≡ b → length (x ∷ xs) ≤ cond (not b) (1 + position_or_len (λ y. y == 10) xs) 0
    → (length xs ≤ position_or_len (λ y. y == 10) xs → All (λ y. y ≢ 10) xs) → All (λ y. y ≢ 10) (x ∷ xs)
plain_case x xs true is long plain = absurd (omega arith)
plain_case x xs false is long plain = let shorter : length xs ≤ position_or_len (λ y. y == 10) xs = omega arith in All-cons (λ y. y ≢ 10) x xs (eqb-false x 10 is) (plain shorter)

plain_from : (xs : List ℕ) → length xs ≤ position_or_len (λ b. b == 10) xs → All (λ b. b ≢ 10) xs
plain_from [] long = All-nil (λ b. b ≢ 10)
plain_from (x ∷ xs) long = plain_case x xs (x == 10) refl long (plain_from xs)

none_where : (b : Bool) (n : ℕ) → cond b (Some n) None ≡ None → b ≡ false
none_where true n e = let bad : ⊥ = cc in absurd bad
none_where false n e = refl

-- a text in which no line feed is found has none
pub none_plain : (xs : List ℕ) → position (λ b. b == 10) xs ≡ None → All (λ b. b ≢ 10) xs
none_plain xs e = plain_from xs (ltb-false _ _ (none_where _ (position_or_len (λ b. b == 10) xs) e))

-- the first line feed, and what stands before it
pub at_feed : (xs : List ℕ) (end : ℕ) → position (λ b. b == 10) xs ≡ Some end → (take (end + 1) xs ≡ take end xs ++ 10 ∷ []) × All (λ b. b ≢ 10) (take end xs)
at_feed xs end e =
    let found = position-Some (λ b. b == 10) xs end 0 e in
    let byte : get_or xs end 0 ≡ 10 = eqb-true _ _ found.1 in (
      take_more xs end 0 found.0 ∙ ap (λ (b : ℕ). take end xs ++ b ∷ []) byte,
      All-from_get_or (λ b. b ≢ 10) (take end xs) 0 (λ k within.
          let inside : k < end = omega (arith, length-take end xs) in
          subst (λ (b : ℕ). b ≢ 10) (sym (get_or-take end xs k 0 inside)) (eqb-false _ _ (found.2 k inside))),
    )

-- ---- what was taken from a reader, with a part of a line after others

-- a line feed ends the line
pub takes_feed : (a b c : Option (List ℕ)) (line bytes new : List ℕ) → new ≡ line ++ bytes → Consumes a b line → Consumes b c (bytes ++ 10 ∷ []) → All (λ x. x ≢ 10) line → All (λ x. x ≢ 10) bytes
    → TakesLines a c (new ∷ [])
takes_feed None b c line bytes new is p q plain more = tt
takes_feed (Some x) None c line bytes new is p q plain more = absurd p
takes_feed (Some x) (Some y) None line bytes new is p q plain more = absurd q
takes_feed (Some x) (Some y) (Some z) line bytes new is p q plain more =
    let whole : x ≡ (line ++ bytes) ++ 10 ∷ z =
    p ∙ ap (λ (l : List ℕ). line ++ l) (q ∙ append_assoc bytes (10 ∷ []) z) ∙ sym (append_assoc line bytes (10 ∷ z)) in
    ap lines_of whole ∙ lines_feed (line ++ bytes) z (All-append (λ x. x ≢ 10) line bytes plain more) ∙ ap (λ (l : List ℕ). l ∷ lines_of z) (sym is)

-- so does the end of the text
pub takes_last : (a b c : Option (List ℕ)) (line new : List ℕ) → new ≡ line → Consumes a b line → IsAtEnd b → Consumes b c [] → 0 < length new → All (λ x. x ≢ 10) line → TakesLines a c (new ∷ [])
takes_last None b c line new is p end q some plain = tt
takes_last (Some x) None c line new is p end q some plain = absurd p
takes_last (Some x) (Some y) None line new is p end q some plain = absurd q
takes_last (Some x) (Some y) (Some z) [] new is p end q some plain = absurd (omega (arith, ap length is))
takes_last (Some x) (Some y) (Some z) (b ∷ line) new is p end q some plain =
    let whole : x ≡ b ∷ line = p ∙ ap (λ (l : List ℕ). (b ∷ line) ++ l) end ∙ append-nil (b ∷ line) in
    let none : z ≡ [] = sym q ∙ end in
    ap lines_of whole ∙ lines_last b line plain ∙ ap (λ (l : List ℕ). l ∷ []) (sym is) ∙ ap (λ (l : List ℕ). new ∷ lines_of l) (sym none)

-- the line has more bytes than the limit
pub takes_long : (limit : ℕ) (a b : Option (List ℕ)) (line : List ℕ) → Consumes a b line → All (λ x. x ≢ 10) line → limit < length line → IsNextTooLong limit a
takes_long limit None b line p plain long = (line, [], tt, long)
takes_long limit (Some x) None line p plain long = absurd p
takes_long limit (Some x) (Some y) [] p plain long = absurd (omega arith)
takes_long limit (Some x) (Some y) (b ∷ line) p plain long =
    let at = lines_long b line y plain in
    (at.0, at.1, ap lines_of p ∙ at.2, omega (arith, at.3))
