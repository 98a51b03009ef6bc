-- The options of an open are read where they are written.
use Rattle.std.proofs.Common.{◌≡◌, ℕ, List, [], ◌∷◌, ◌++◌, Bool, Option, Ok, subst, ◌∙◌}
use Rattle.std.specs.Int.{w32}
use Rattle.dl_types.specs.declared.name.Base.{Base}
use Rattle.dl_types.specs.declared.size.Kind.{Kind}
use Rattle.dl_types.specs.declared.size.Link.{Link}
use Rattle.dl_types.specs.declared.size.Mode.{Mode}
use Rattle.dl_types.specs.declared.size.OpenArgs.{OpenArgs}
use Rattle.dl_types.specs.declared.size.Repair.{Repair}
use Rattle.dl_types.specs.declared.size.Size.{Size}
use Rattle.dl_types.specs.Name.{base_text}
use Rattle.dl_wire.specs.Decode.{bools, modes, repairs, links, open_at}
use Rattle.dl_wire.specs.Fits.{IsOpen}
use Rattle.dl_wire.specs.Parts.{short_text, bytes_text, option_text, bool_code, kind_code, mode_code, repair_code, link_code, size_text, u32_text}
use Rattle.dl_wire.specs.Reading.{Read, ◌>>=◌, number_at, choice_at, base_at, item_at, option_at, size_at}
use Rattle.dl_wire.specs.Request.{open_text}
use Rattle.dl_wire.proofs.Items.{reads_item}
use Rattle.dl_wire.proofs.Names.{reads_base}
use Rattle.dl_wire.proofs.Parts.{IsBytes, ok_is, Takes, Takes-then, TakesAs, Reads, first_then, first_again, one_again, made_of, reads_u32, reads_option}
use Rattle.dl_wire.proofs.Places.{reads_bool, reads_kind, reads_mode, reads_repair, reads_link, reads_size}

-- the text of a base, and what may be missing
abbrev some_base : Option Base → List ℕ
some_base o = option_text (λ base. short_text (base_text base)) o

module _ {Z : Type 0} where
  abbrev args_of : Kind → Option Base → Option Size → Mode → Repair → Option (List ℕ) → Bool → Link → Option ℕ → OpenArgs Z
  args_of kind base size mode repair head notify link hold = record { base = base; kind = kind; size = size; mode = mode; repair = repair; head = head; notify = notify; link = link; hold = hold }

  -- what is read after each part
  abbrev after_link : Kind → Option Base → Option Size → Mode → Repair → Option (List ℕ) → Bool → Link × List ℕ → Read (OpenArgs Z)
  after_link kind base size mode repair head notify link = option_at (number_at w32) link.1 >>= made_of (args_of kind base size mode repair head notify link.0)

  abbrev after_notify : Kind → Option Base → Option Size → Mode → Repair → Option (List ℕ) → Bool × List ℕ → Read (OpenArgs Z)
  after_notify kind base size mode repair head notify = choice_at links notify.1 >>= after_link kind base size mode repair head notify.0

  abbrev after_head : Kind → Option Base → Option Size → Mode → Repair → Option (List ℕ) × List ℕ → Read (OpenArgs Z)
  after_head kind base size mode repair head = choice_at bools head.1 >>= after_notify kind base size mode repair head.0

  abbrev after_repair : Kind → Option Base → Option Size → Mode → Repair × List ℕ → Read (OpenArgs Z)
  after_repair kind base size mode repair = option_at item_at repair.1 >>= after_head kind base size mode repair.0

  abbrev after_mode : Kind → Option Base → Option Size → Mode × List ℕ → Read (OpenArgs Z)
  after_mode kind base size mode = choice_at repairs mode.1 >>= after_repair kind base size mode.0

  abbrev after_size : Kind → Option Base → Option Size × List ℕ → Read (OpenArgs Z)
  after_size kind base size = choice_at modes size.1 >>= after_mode kind base size.0

  abbrev after_base : Kind → Option Base × List ℕ → Read (OpenArgs Z)
  after_base kind base = option_at size_at base.1 >>= after_size kind base.0

  abbrev after_kind : Kind × List ℕ → Read (OpenArgs Z)
  after_kind kind = option_at base_at kind.1 >>= after_base kind.0

  open_takes : (bytes : List ℕ) (y : OpenArgs Z × List ℕ) → IsBytes bytes → open_at bytes ≡ Ok y → TakesAs open_text IsOpen bytes y
  unfolding open_at
  open_takes bytes y fits e =
      first_then reads_kind after_kind bytes y fits e (λ kind r1 t1 f1 e1.
      first_then (reads_option reads_base) (after_base kind) r1 y t1.rest_fits e1 (λ base r2 t2 f2 e2.
      first_then (reads_option reads_size) (after_size kind base) r2 y t2.rest_fits e2 (λ size r3 t3 f3 e3.
      first_then reads_mode (after_mode kind base size) r3 y t3.rest_fits e3 (λ mode r4 t4 f4 e4.
      first_then reads_repair (after_repair kind base size mode) r4 y t4.rest_fits e4 (λ repair r5 t5 f5 e5.
      first_then (reads_option reads_item) (after_head kind base size mode repair) r5 y t5.rest_fits e5 (λ head r6 t6 f6 e6.
      first_then reads_bool (after_notify kind base size mode repair head) r6 y t6.rest_fits e6 (λ notify r7 t7 f7 e7.
      first_then reads_link (after_link kind base size mode repair head notify) r7 y t7.rest_fits e7 (λ link r8 t8 f8 e8.
      first_then (reads_option reads_u32) (made_of (args_of kind base size mode repair head notify link)) r8 y t8.rest_fits e8 (λ hold r9 t9 f9 e9.
      let x8 : List ℕ = link_code link ∷ option_text u32_text hold in
      let x7 : List ℕ = bool_code notify ∷ x8 in
      let x6 : List ℕ = option_text bytes_text head ++ x7 in
      let x5 : List ℕ = repair_code repair ∷ x6 in
      let x4 : List ℕ = mode_code mode ∷ x5 in
      let x3 : List ℕ = option_text size_text size ++ x4 in
      let x2 : List ℕ = some_base base ++ x3 in
      let p8 : Takes r7 x8 r9 = Takes-then r7 (link_code link ∷ []) r8 (option_text u32_text hold) r9 t8 t9 in
      let p7 : Takes r6 x7 r9 = Takes-then r6 (bool_code notify ∷ []) r7 x8 r9 t7 p8 in
      let p6 : Takes r5 x6 r9 = Takes-then r5 (option_text bytes_text head) r6 x7 r9 t6 p7 in
      let p5 : Takes r4 x5 r9 = Takes-then r4 (repair_code repair ∷ []) r5 x6 r9 t5 p6 in
      let p4 : Takes r3 x4 r9 = Takes-then r3 (mode_code mode ∷ []) r4 x5 r9 t4 p5 in
      let p3 : Takes r2 x3 r9 = Takes-then r2 (option_text size_text size) r3 x4 r9 t3 p4 in
      let p2 : Takes r1 x2 r9 = Takes-then r1 (some_base base) r2 x3 r9 t2 p3 in
      let p1 : Takes bytes (kind_code kind ∷ x2) r9 = Takes-then bytes (kind_code kind ∷ []) r1 x2 r9 t1 p2 in
      let args : OpenArgs Z = args_of kind base size mode repair head notify link hold in
      subst (λ (z : OpenArgs Z × List ℕ). TakesAs open_text IsOpen bytes z) (ok_is (args, r9) y e9)
      (p1, record { base = f2; size = f3; head = f6; hold = f9 }))))))))))

  open_again : (args : OpenArgs Z) (rest : List ℕ) → IsOpen args → open_at (open_text args ++ rest) ≡ Ok (args, rest)
  unfolding open_at
  open_again args rest fit =
      let x8 : List ℕ = link_code args.link ∷ option_text u32_text args.hold in
      let x7 : List ℕ = bool_code args.notify ∷ x8 in
      let x6 : List ℕ = option_text bytes_text args.head ++ x7 in
      let x5 : List ℕ = repair_code args.repair ∷ x6 in
      let x4 : List ℕ = mode_code args.mode ∷ x5 in
      let x3 : List ℕ = option_text size_text args.size ++ x4 in
      let x2 : List ℕ = some_base args.base ++ x3 in
      first_again reads_kind after_kind args.kind x2 rest tt
      ∙ first_again (reads_option reads_base) (after_base args.kind) args.base x3 rest fit.base
      ∙ first_again (reads_option reads_size) (after_size args.kind args.base) args.size x4 rest fit.size
      ∙ first_again reads_mode (after_mode args.kind args.base args.size) args.mode x5 rest tt
      ∙ first_again reads_repair (after_repair args.kind args.base args.size args.mode) args.repair x6 rest tt
      ∙ first_again (reads_option reads_item) (after_head args.kind args.base args.size args.mode args.repair) args.head x7 rest fit.head
      ∙ first_again reads_bool (after_notify args.kind args.base args.size args.mode args.repair args.head) args.notify x8 rest tt
      ∙ first_again reads_link (after_link args.kind args.base args.size args.mode args.repair args.head args.notify) args.link (option_text u32_text args.hold) rest tt
      ∙ one_again (reads_option reads_u32) (args_of args.kind args.base args.size args.mode args.repair args.head args.notify args.link) args.hold rest fit.hold

  pub reads_open : Reads (open_at {Z = Z}) open_text IsOpen
  reads_open = record { takes = open_takes; again = open_again }
