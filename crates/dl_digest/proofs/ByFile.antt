-- One part more, behind others.
use Rattle.std.proofs.Common.{◌≡◌, ◌≢◌, ℕ, ◌==◌, cond, true, false, List, [], ◌∷◌, ◌++◌, if◌then◌else◌, refl, sym, ap, ◌∙◌, append_assoc, arith}
use Rattle.std.proofs.lemmas.Bool.Decides.{nat_tests}
use Rattle.std.specs.List.{flat_map}
use Rattle.dl_digest.specs.Files.{before_files, by_file, FileItems}

-- some items behind those of files: of the last file, or of one behind it
abbrev after_files : List FileItems → FileItems → List FileItems
after_files [] part = part ∷ []
after_files (file ∷ []) part =
    if file.generation == part.generation
    then record { generation = part.generation; items = file.items ++ part.items } ∷ []
    else file ∷ part ∷ []
after_files (file ∷ next ∷ files) part = file ∷ after_files (next ∷ files) part

one_between : (q f p : FileItems) → before_files q (after_files (f ∷ []) p) ≡ after_files (before_files q (f ∷ [])) p
one_between q f p = grind (arith, nat_tests, append_assoc)

between : (q p : FileItems) (files : List FileItems) → before_files q (after_files files p) ≡ after_files (before_files q files) p
between q p [] = refl
between q p (f ∷ []) = one_between q f p
between q p (f ∷ next ∷ files) =
    let both : FileItems = record { generation = f.generation; items = q.items ++ f.items } in
    elim (q.generation == f.generation) as (λ b. cond b (both ∷ after_files (next ∷ files) p) (q ∷ f ∷ after_files (next ∷ files) p) ≡ after_files (cond b (both ∷ next ∷ files) (q ∷ f ∷ next ∷ files)) p)
    [ true ↦ refl | false ↦ refl ]

by_file_more : (parts : List FileItems) (p : FileItems) → by_file (parts ++ p ∷ []) ≡ after_files (by_file parts) p
by_file_more [] p = refl
by_file_more (q ∷ parts) p = ap (before_files q) (by_file_more parts p) ∙ between q p (by_file parts)

after_fronts : (fronts : List FileItems) (f p : FileItems) → after_files (fronts ++ f ∷ []) p ≡ fronts ++ after_files (f ∷ []) p
after_fronts [] f p = refl
after_fronts (x ∷ []) f p = refl
after_fronts (x ∷ y ∷ fronts) f p = ap (λ (l : List FileItems). x ∷ l) (after_fronts (y ∷ fronts) f p)

last_more : (parts fronts : List FileItems) (f p : FileItems) → by_file parts ≡ fronts ++ f ∷ [] → by_file (parts ++ p ∷ []) ≡ fronts ++ after_files (f ∷ []) p
last_more parts fronts f p is = by_file_more parts p ∙ ap (λ (l : List FileItems). after_files l p) is ∙ after_fronts fronts f p

module _ (parts : List FileItems) (generation : ℕ) (more : List (List ℕ)) where
  -- more items of the last file
  pub same_file : (fronts : List FileItems) (last : ℕ) (items : List (List ℕ)) → by_file parts ≡ fronts ++ record { generation = last; items = items } ∷ [] → last ≡ generation
      → by_file (parts ++ record { generation = generation; items = more } ∷ []) ≡ fronts ++ record { generation = generation; items = items ++ more } ∷ []
  same_file fronts last items is same =
      let f : FileItems = record { generation = last; items = items } in
      let p : FileItems = record { generation = generation; items = more } in
      let one : after_files (f ∷ []) p ≡ record { generation = generation; items = items ++ more } ∷ [] = grind (arith, nat_tests) in
      last_more parts fronts f p is ∙ ap (λ (l : List FileItems). fronts ++ l) one

  -- items of a file behind the last one
  pub next_file : (fronts : List FileItems) (last : ℕ) (items : List (List ℕ)) → by_file parts ≡ fronts ++ record { generation = last; items = items } ∷ [] → last ≢ generation
      → by_file (parts ++ record { generation = generation; items = more } ∷ []) ≡ (fronts ++ record { generation = last; items = items } ∷ []) ++ record { generation = generation; items = more } ∷ []
  next_file fronts last items is other =
      let f : FileItems = record { generation = last; items = items } in
      let p : FileItems = record { generation = generation; items = more } in
      let two : after_files (f ∷ []) p ≡ f ∷ p ∷ [] = grind (arith, nat_tests) in
      last_more parts fronts f p is ∙ ap (λ (l : List FileItems). fronts ++ l) two ∙ sym (append_assoc fronts (f ∷ []) (p ∷ []))

  -- items of the first file
  pub first_file : by_file parts ≡ [] → by_file (parts ++ record { generation = generation; items = more } ∷ []) ≡ record { generation = generation; items = more } ∷ []
  first_file is =
      let p : FileItems = record { generation = generation; items = more } in
      by_file_more parts p ∙ ap (λ (l : List FileItems). after_files l p) is

items_before : (part : FileItems) (files : List FileItems) → flat_map (λ (f : FileItems). f.items) (before_files part files) ≡ part.items ++ flat_map (λ (f : FileItems). f.items) files
items_before part [] = refl
items_before part (file ∷ files) =
    let rest : List (List ℕ) = flat_map (λ (f : FileItems). f.items) files in
    let both : FileItems = record { generation = file.generation; items = part.items ++ file.items } in
    elim (part.generation == file.generation) as (λ b. flat_map (λ (f : FileItems). f.items) (cond b (both ∷ files) (part ∷ file ∷ files)) ≡ part.items ++ (file.items ++ rest))
    [ true ↦ append_assoc part.items file.items rest | false ↦ refl ]

-- no item is lost, and none comes from elsewhere
pub items_by_file : (parts : List FileItems) → flat_map (λ (f : FileItems). f.items) (by_file parts) ≡ flat_map (λ (f : FileItems). f.items) parts
items_by_file [] = refl
items_by_file (part ∷ parts) = items_before part (by_file parts) ∙ ap (λ (l : List (List ℕ)). part.items ++ l) (items_by_file parts)
