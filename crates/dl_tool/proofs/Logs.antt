-- The logs of a list of files.
use Rattle.std.proofs.Common.{◌≡◌, ◌⊎◌, inl, inr, ℕ, List, [], ◌∷◌, Option, Some, None, refl, sym, ◌∙◌, ap, subst, get_or, arith}
use Rattle.dl_tool.proofs.Words.{Base, Contains, FileName, Halt, Kind, LogFiles, main_file, Wrap}
use Rattle.std.specs.List.{filter_map, cons_option}
use Rattle.std.proofs.lemmas.List.Elements.{Contains-append_left, Contains-append_right, Contains-append_cases}
use Rattle.dl_types.specs.declared.file.Part.{Part}
use Rattle.dl_types.specs.declared.file.Part.TheVariants as part
use Rattle.dl_tool.specs.Folder.{main_part, log_with, log_of}

-- a list of one has it, and nothing else
pub one_of : {X : Type 0} (x : X) → Contains (x ∷ []) x
one_of x = (0, omega arith, refl)

pub the_one : {X : Type 0} (x y : X) → Contains (x ∷ []) y → x ≡ y
the_one x y (k, below, is) = subst (λ (j : ℕ). get_or (x ∷ []) j y ≡ y) (let zero_is : k ≡ 0 = omega (arith, below) in zero_is) is

-- the log of its file
log_is : (base : Base) (kind : Kind) → log_with base (main_part kind) ≡ Some (record { base = base; kind = kind })
log_is base Halt = refl
log_is base Wrap = refl

-- the file that gives a log is its main file
file_is : (base : Base) (p : Part) (log : LogFiles) → log_with base p ≡ Some log → record { base = base; part = p } ≡ main_file log
file_is base part.Halt log is = let same : record { base = base; kind = Halt } ≡ log = cc in ap main_file same
file_is base part.Index log is = let same : record { base = base; kind = Wrap } ≡ log = cc in ap main_file same
file_is base (part.Numbered n) log is = cc

-- a log that files give has its main file among them, and a main file among them gives its log
pub by_file : (files : List FileName) (log : LogFiles) → Contains (filter_map log_of files) log → Contains files (main_file log)
by_file [] log has = absurd (omega (arith, has.1))
by_file (f ∷ fs) log has = by (by_file fs log) (log_with f.base f.part) refl
  where
    later : Contains fs (main_file log) → Contains (f ∷ fs) (main_file log)
    later had = Contains-append_right (f ∷ []) fs (main_file log) had

    here : (l : LogFiles) → log_with f.base f.part ≡ Some l → l ≡ log → Contains (f ∷ fs) (main_file log)
    here l is same =
        Contains-append_left (f ∷ []) fs (main_file log)
        (subst (λ (g : FileName). Contains (f ∷ []) g) (file_is f.base f.part l is ∙ ap main_file same) (one_of f))

    pick : (Contains (filter_map log_of fs) log → Contains fs (main_file log)) → (l : LogFiles) → log_with f.base f.part ≡ Some l → (Contains (l ∷ []) log ⊎ Contains (filter_map log_of fs) log) → Contains (f ∷ fs) (main_file log)
    pick known l is (inl one) = here l is (the_one l log one)
    pick known l is (inr had) = later (known had)

    by : (Contains (filter_map log_of fs) log → Contains fs (main_file log)) → (o : Option LogFiles) → log_with f.base f.part ≡ o → Contains (f ∷ fs) (main_file log)
    by known None is = later (known (subst (λ (o : Option LogFiles). Contains (cons_option o (filter_map log_of fs)) log) is has))
    by known (Some l) is = pick known l is (Contains-append_cases (l ∷ []) (filter_map log_of fs) log (subst (λ (o : Option LogFiles). Contains (cons_option o (filter_map log_of fs)) log) is has))

pub of_file : (files : List FileName) (log : LogFiles) → Contains files (main_file log) → Contains (filter_map log_of files) log
of_file [] log has = absurd (omega (arith, has.1))
of_file (f ∷ fs) log has = by (of_file fs log) (Contains-append_cases (f ∷ []) fs (main_file log) has)
  where
    later : (o : Option LogFiles) → Contains (filter_map log_of fs) log → Contains (cons_option o (filter_map log_of fs)) log
    later None had = had
    later (Some l) had = Contains-append_right (l ∷ []) (filter_map log_of fs) log had

    here : f ≡ main_file log → log_of f ≡ Some log
    here is = ap log_of is ∙ log_is log.base log.kind

    by : (Contains fs (main_file log) → Contains (filter_map log_of fs) log) → (Contains (f ∷ []) (main_file log) ⊎ Contains fs (main_file log)) → Contains (filter_map log_of (f ∷ fs)) log
    by known (inl one) =
        subst (λ (o : Option LogFiles). Contains (cons_option o (filter_map log_of fs)) log) (sym (here (the_one f (main_file log) one)))
        (Contains-append_left (log ∷ []) (filter_map log_of fs) log (one_of log))
    by known (inr had) = later (log_of f) (known had)
