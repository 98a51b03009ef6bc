-- A part that is read is the part that was written, and what was written is read again.
use Rattle.std.proofs.Common.{◌≡◌, ℕ, zero, suc, ◌+◌, ◌^◌, ◌<◌, ◌≤◌, Bool, true, false, cond, ltb, List, [], ◌∷◌, ◌++◌, length, get_or, take, drop, Option, Some, None, Result, Ok, Err, refl, sym, ap, subst, ◌∙◌, append_assoc, arith, inl, inr}
use Rattle.std.specs.Prelude.{IfSome, ⊤}
use Rattle.std.specs.Int.{Width, w16, w32, w64, byte_len, from_be_bytes, to_be_bytes}
use Rattle.std.specs.List.{slice_get}
use Rattle.std.proofs.lemmas.Bool.{cases_lt, ltb-false, le-ltb}
use Rattle.std.proofs.lemmas.List.{take_at, drop_at, take-append-drop, length-append, length-take, get_or-drop, get_or-take, get_or_past}
use Rattle.std.proofs.lemmas.Nat.{be_bytes_2, be_bytes_4, be_bytes_8, from_be_bytes-to_be_bytes_2, from_be_bytes-to_be_bytes_4, from_be_bytes-to_be_bytes_8}
use Rattle.dl_wire.specs.Reading.{Read, ◌>>=◌, number_at, choice_at, chosen, option_at}
use Rattle.dl_wire.specs.Parts.{u16_text, u32_text, u64_text, option_text}

abbrev pub IsBytes : List ℕ → Type 0
IsBytes bytes = (i : ℕ) → get_or bytes i 0 < 256

pub IsBytes-drop : (n : ℕ) (bytes : List ℕ) → IsBytes bytes → IsBytes (drop n bytes)
IsBytes-drop n bytes h i = rw get_or-drop (h (n + i))

pub IsBytes-take : (n : ℕ) (bytes : List ℕ) → IsBytes bytes → IsBytes (take n bytes)
IsBytes-take n bytes h i =
    elim (cases_lt i n) [
      | inl lt ↦ rw (get_or-take n bytes i 0 lt) (h i)
      | inr le ↦ rw (get_or_past (take n bytes) i 0 (omega (arith, length-take n bytes))) (omega arith)
    ]

pub IsBytes-rest : (b : ℕ) (bytes : List ℕ) → IsBytes (b ∷ bytes) → IsBytes bytes
IsBytes-rest b bytes h i = h (suc i)

-- what was read, as a type that antt finds
abbrev pub done : {A : Type 0} → A → Result A ℕ
done x = Ok x

-- the value of a step that did not fail
pub bind_ok : {A B : Type 0} (r : Result A ℕ) (f : A → Result B ℕ) (y : B) → (r >>= f) ≡ Ok y → (x : A) × (r ≡ Ok x) × (f x ≡ Ok y)
bind_ok (Ok x) f y e = (x, refl, e)
bind_ok (Err d) f y e = absurd cc

-- a test that did not fail
pub guard_ok : {A : Type 0} (b : Bool) (d : ℕ) (r : Result A ℕ) (y : A) → cond b (Err d) r ≡ Ok y → (b ≡ false) × (r ≡ Ok y)
guard_ok true d r y e = absurd cc
guard_ok false d r y e = (refl, e)

-- a test that has to hold
pub wanted_ok : {A : Type 0} (b : Bool) (d : ℕ) (r : Result A ℕ) (y : A) → cond b r (Err d) ≡ Ok y → (b ≡ true) × (r ≡ Ok y)
wanted_ok true d r y e = (refl, e)
wanted_ok false d r y e = absurd cc

pub ok_is : {A : Type 0} (x y : A) → done x ≡ done y → x ≡ y
ok_is x y e = cc

-- what a reader took from the front
pub record Takes (bytes text rest : List ℕ) : Type 0 where
  pub parts : bytes ≡ text ++ rest
  pub rest_fits : IsBytes rest

pub Takes-then : (a x b y c : List ℕ) → Takes a x b → Takes b y c → Takes a (x ++ y) c
Takes-then a x b y c p q = record { parts = p.parts ∙ ap (λ (t : List ℕ). x ++ t) q.parts ∙ sym (append_assoc x y c); rest_fits = q.rest_fits }

pub Takes-cons : (n : ℕ) (a x b : List ℕ) → Takes a x b → Takes (n ∷ a) (n ∷ x) b
Takes-cons n a x b p = record { parts = ap (λ (t : List ℕ). n ∷ t) p.parts; rest_fits = p.rest_fits }

-- what a reader took, and what it gives
abbrev pub TakesAs : {X : Type 0} → (X → List ℕ) → (X → Type 0) → List ℕ → X × List ℕ → Type 0
TakesAs text Fits bytes x = Takes bytes (text x.0) x.1 × Fits x.0

-- a part is read where it is written, and what is read is written so
pub record Reads {X : Type 0} (part_at : List ℕ → Read X) (text : X → List ℕ) (Fits : X → Type 0) : Type 0 where
  pub takes : (bytes : List ℕ) (x : X × List ℕ) → IsBytes bytes → part_at bytes ≡ Ok x → TakesAs text Fits bytes x
  pub again : (x : X) (rest : List ℕ) → Fits x → part_at (text x ++ rest) ≡ Ok (x, rest)

-- ---- one part, and two, that make a value

-- a value of one part, and of two
abbrev pub made_of : {A Y : Type 0} → (A → Y) → A × List ℕ → Read Y
made_of f x = Ok (f x.0, x.1)

abbrev pub made_of_two : {A B Y : Type 0} → (List ℕ → Read B) → (A → B → Y) → A × List ℕ → Read Y
made_of_two b f x = b x.1 >>= λ z. Ok (f x.0 z.0, z.1)

module _ {A Y : Type 0} {a : List ℕ → Read A} {ta : A → List ℕ} {Fa : A → Type 0} (reads : Reads a ta Fa) where
  -- the value of a part before others
  pub first_takes : (k : A × List ℕ → Read Y) (bytes : List ℕ) (y : Y × List ℕ) → IsBytes bytes → (a bytes >>= k) ≡ Ok y → (x : A × List ℕ) × TakesAs ta Fa bytes x × (k x ≡ Ok y)
  first_takes k bytes y fits e =
      let p = bind_ok (a bytes) k y e in
      (p.0, reads.takes bytes p.0 fits p.1, p.2)

  pub first_then : {P : Type 0} (k : A × List ℕ → Read Y) (bytes : List ℕ) (y : Y × List ℕ) → IsBytes bytes → (a bytes >>= k) ≡ Ok y
      → ((x : A) (rest : List ℕ) → Takes bytes (ta x) rest → Fa x → k (x, rest) ≡ Ok y → P) → P
  first_then k bytes y fits e then =
      let p = first_takes k bytes y fits e in
      then p.0.0 p.0.1 p.1.0 p.1.1 p.2

  -- a part before others is read again
  pub first_again : (k : A × List ℕ → Read Y) (x : A) (text rest : List ℕ) → Fa x → (a ((ta x ++ text) ++ rest) >>= k) ≡ k (x, text ++ rest)
  first_again k x text rest fit =
      ap (λ (t : List ℕ). a t >>= k) (append_assoc (ta x) text rest)
      ∙ ap (λ (r : Read A). r >>= k) (reads.again x (text ++ rest) fit)

  pub one_takes : (f : A → Y) (text : Y → List ℕ) (Fits : Y → Type 0) → ((x : A) → Fa x → text (f x) ≡ ta x) → ((x : A) → Fa x → Fits (f x))
      → (bytes : List ℕ) (y : Y × List ℕ) → IsBytes bytes → (a bytes >>= made_of f) ≡ Ok y → TakesAs text Fits bytes y
  one_takes f text Fits same fit bytes y fits e =
      let p = first_takes (made_of f) bytes y fits e in
      subst (λ (z : Y × List ℕ). TakesAs text Fits bytes z) (ok_is (f p.0.0, p.0.1) y p.2)
      (subst (λ (t : List ℕ). Takes bytes t p.0.1) (sym (same p.0.0 p.1.1)) p.1.0, fit p.0.0 p.1.1)

  pub one_again : (f : A → Y) (x : A) (rest : List ℕ) → Fa x → (a (ta x ++ rest) >>= made_of f) ≡ Ok (f x, rest)
  one_again f x rest fit = ap (λ (r : Read A). r >>= made_of f) (reads.again x rest fit)

module _ {A B Y : Type 0} {a : List ℕ → Read A} {ta : A → List ℕ} {Fa : A → Type 0} {b : List ℕ → Read B} {tb : B → List ℕ} {Fb : B → Type 0}
    (reads : Reads a ta Fa) (more : Reads b tb Fb) where
  pub two_takes : (f : A → B → Y) (text : Y → List ℕ) (Fits : Y → Type 0) → ((x : A) (z : B) → text (f x z) ≡ ta x ++ tb z) → ((x : A) (z : B) → Fa x → Fb z → Fits (f x z))
      → (bytes : List ℕ) (y : Y × List ℕ) → IsBytes bytes → (a bytes >>= made_of_two b f) ≡ Ok y → TakesAs text Fits bytes y
  two_takes f text Fits same fit bytes y fits e =
      let p = first_takes reads (made_of_two b f) bytes y fits e in
      let q = first_takes more (made_of (f p.0.0)) p.0.1 y p.1.0.rest_fits p.2 in
      subst (λ (z : Y × List ℕ). TakesAs text Fits bytes z) (ok_is (f p.0.0 q.0.0, q.0.1) y q.2)
      (subst (λ (t : List ℕ). Takes bytes t q.0.1) (sym (same p.0.0 q.0.0)) (Takes-then bytes (ta p.0.0) p.0.1 (tb q.0.0) q.0.1 p.1.0 q.1.0), fit p.0.0 q.0.0 p.1.1 q.1.1)

  pub two_again : (f : A → B → Y) (x : A) (z : B) (rest : List ℕ) → Fa x → Fb z → (a ((ta x ++ tb z) ++ rest) >>= made_of_two b f) ≡ Ok (f x z, rest)
  two_again f x z rest fit also =
      ap (λ (t : List ℕ). a t >>= made_of_two b f) (append_assoc (ta x) (tb z) rest)
      ∙ ap (λ (r : Read A). r >>= made_of_two b f) (reads.again x (tb z ++ rest) fit)
      ∙ ap (λ (r : Read B). r >>= made_of (f x)) (more.again z rest also)

-- ---- numbers

pub record IsWide (w : Width) (limit : ℕ) : Type 0 where
  pub len : (n : ℕ) → length (to_be_bytes w n) ≡ byte_len w
  pub back : (bytes : List ℕ) → length bytes ≡ byte_len w → IsBytes bytes → to_be_bytes w (from_be_bytes w bytes) ≡ bytes
  pub same : (n : ℕ) → n < limit → from_be_bytes w (to_be_bytes w n) ≡ n
  pub below : (bytes : List ℕ) → IsBytes bytes → from_be_bytes w bytes < limit

wide16 : IsWide w16 (2 ^ 16)
wide16 = record {
  len = λ n. refl;
  back = λ bytes len fits. be_bytes_2 bytes _ len fits refl;
  same = λ n lt. from_be_bytes-to_be_bytes_2 n lt;
  below = λ bytes fits. omega (arith, fits 0, fits 1);
}

wide32 : IsWide w32 (2 ^ 32)
wide32 = record {
  len = λ n. refl;
  back = λ bytes len fits. be_bytes_4 bytes _ len fits refl;
  same = λ n lt. from_be_bytes-to_be_bytes_4 n lt;
  below = λ bytes fits. omega (arith, fits 0, fits 1, fits 2, fits 3);
}

wide64 : IsWide w64 (2 ^ 64)
wide64 = record {
  len = λ n. refl;
  back = λ bytes len fits. be_bytes_8 bytes _ len fits refl;
  same = λ n lt. from_be_bytes-to_be_bytes_8 n lt;
  below = λ bytes fits. omega (arith, fits 0, fits 1, fits 2, fits 3, fits 4, fits 5, fits 6, fits 7);
}

number_takes : (w : Width) (limit : ℕ) (wide : IsWide w limit) (bytes : List ℕ) (x : ℕ × List ℕ) → IsBytes bytes → number_at w bytes ≡ Ok x → TakesAs (to_be_bytes w) (λ n. n < limit) bytes x
number_takes w limit wide bytes x fits e =
    let g = guard_ok (ltb (length bytes) (byte_len w)) (length bytes) (Ok (from_be_bytes w (take (byte_len w) bytes), drop (byte_len w) bytes)) x e in
    let long : byte_len w ≤ length bytes = ltb-false _ _ g.0 in
    let front = wide.back (take (byte_len w) bytes) (omega (arith, length-take (byte_len w) bytes)) (IsBytes-take (byte_len w) bytes fits) in
    let made : ℕ × List ℕ = (from_be_bytes w (take (byte_len w) bytes), drop (byte_len w) bytes) in
    subst (λ (y : ℕ × List ℕ). TakesAs (to_be_bytes w) (λ n. n < limit) bytes y) (ok_is made x g.1)
    (record { parts = rw front (sym (take-append-drop (byte_len w) bytes)); rest_fits = IsBytes-drop (byte_len w) bytes fits }, wide.below (take (byte_len w) bytes) (IsBytes-take (byte_len w) bytes fits))

number_again : (w : Width) (limit : ℕ) (wide : IsWide w limit) (n : ℕ) (rest : List ℕ) → n < limit → number_at w (to_be_bytes w n ++ rest) ≡ Ok (n, rest)
number_again w limit wide n rest lt =
    let len = wide.len n in
    let long : ltb (length (to_be_bytes w n ++ rest)) (byte_len w) ≡ false = le-ltb _ _ (omega (arith, length-append (to_be_bytes w n) rest)) in
    rw (long, take_at (to_be_bytes w n) rest (byte_len w) len, drop_at (to_be_bytes w n) rest (byte_len w) len, wide.same n lt) refl

pub reads_u16 : Reads (number_at w16) u16_text (λ n. n < 2 ^ 16)
unfolding u16_text
reads_u16 = record { takes = number_takes w16 (2 ^ 16) wide16; again = number_again w16 (2 ^ 16) wide16 }

pub reads_u32 : Reads (number_at w32) u32_text (λ n. n < 2 ^ 32)
unfolding u32_text
reads_u32 = record { takes = number_takes w32 (2 ^ 32) wide32; again = number_again w32 (2 ^ 32) wide32 }

pub reads_u64 : Reads (number_at w64) u64_text (λ n. n < 2 ^ 64)
unfolding u64_text
reads_u64 = record { takes = number_takes w64 (2 ^ 64) wide64; again = number_again w64 (2 ^ 64) wide64 }

-- ---- choices

-- the choices have the numbers from n on
abbrev pub AreCoded : {X : Type 0} → (X → ℕ) → ℕ → List X → Type 0
AreCoded code n [] = ⊤
AreCoded code n (x ∷ xs) = (code x ≡ n) × AreCoded code (suc n) xs

coded_at : {X : Type 0} (code : X → ℕ) (n : ℕ) (xs : List X) (i : ℕ) (x : X) → AreCoded code n xs → slice_get xs i ≡ Some x → code x ≡ n + i
coded_at code n [] i x coded e = absurd cc
coded_at code n (y ∷ xs) zero x coded e = let same : y ≡ x = cc in ap code (sym same) ∙ coded.0 ∙ (omega arith)
coded_at code n (y ∷ xs) (suc i) x coded e = coded_at code (suc n) xs i x coded.1 e ∙ (omega arith)

chosen_is : {X : Type 0} (o : Option X) (rest : List ℕ) (x : X × List ℕ) → chosen o rest ≡ Ok x → (o ≡ Some x.0) × (rest ≡ x.1)
chosen_is None rest x e = absurd cc
chosen_is (Some y) rest x e =
    let same = ok_is (y, rest) x e in
    (ap (λ (p : _ × List ℕ). Some p.0) same, ap (λ (p : _ × List ℕ). p.1) same)

module _ {X : Type 0} (code : X → ℕ) (choices : List X) (coded : AreCoded code 0 choices) (found : (x : X) → slice_get choices (code x) ≡ Some x) where
  choice_takes : (bytes : List ℕ) (x : X × List ℕ) → IsBytes bytes → choice_at choices bytes ≡ Ok x → TakesAs (λ c. code c ∷ []) (λ c. ⊤) bytes x
  unfolding choice_at
  choice_takes [] x fits e = absurd cc
  choice_takes (b ∷ rest) x fits e =
      let is = chosen_is (slice_get choices b) rest x e in
      let same : code x.0 ≡ b = coded_at code 0 choices b x.0 coded is.0 ∙ (omega arith) in
      (record { parts = (λ i. sym same i ∷ is.1 i); rest_fits = subst IsBytes is.1 (IsBytes-rest b rest fits) }, tt)

  choice_again : (x : X) (rest : List ℕ) → ⊤ → choice_at choices (code x ∷ rest) ≡ Ok (x, rest)
  unfolding choice_at
  choice_again x rest fit = ap (λ (o : Option X). chosen o rest) (found x)

  pub reads_choice : Reads (choice_at choices) (λ c. code c ∷ []) (λ c. ⊤)
  reads_choice = record { takes = choice_takes; again = choice_again }

-- ---- a part that may be missing

module _ {X : Type 0} {part_at : List ℕ → Read X} {text : X → List ℕ} {Fits : X → Type 0} (reads : Reads part_at text Fits) where
  option_takes : (bytes : List ℕ) (x : Option X × List ℕ) → IsBytes bytes → option_at part_at bytes ≡ Ok x → TakesAs (option_text text) (λ o. IfSome o Fits) bytes x
  unfolding option_at
  option_takes [] x fits e = absurd cc
  option_takes (zero ∷ rest) x fits e =
      subst (λ (y : Option X × List ℕ). TakesAs (option_text text) (λ o. IfSome o Fits) (0 ∷ rest) y) (ok_is (None, rest) x e) (record { parts = refl; rest_fits = IsBytes-rest 0 rest fits }, tt)
  option_takes (suc zero ∷ rest) x fits e =
      let p = first_takes reads (λ y. Ok (Some y.0, y.1)) rest x (IsBytes-rest 1 rest fits) e in
      subst (λ (y : Option X × List ℕ). TakesAs (option_text text) (λ o. IfSome o Fits) (1 ∷ rest) y) (ok_is (Some p.0.0, p.0.1) x p.2) (Takes-cons 1 rest (text p.0.0) p.0.1 p.1.0, p.1.1)
  option_takes (suc (suc b) ∷ rest) x fits e = absurd cc

  option_again : (o : Option X) (rest : List ℕ) → IfSome o Fits → option_at part_at (option_text text o ++ rest) ≡ Ok (o, rest)
  unfolding option_at
  option_again None rest fit = refl
  option_again (Some x) rest fit = rw (reads.again x rest fit) refl

  pub reads_option : Reads (option_at part_at) (option_text text) (λ o. IfSome o Fits)
  reads_option = record { takes = option_takes; again = option_again }
