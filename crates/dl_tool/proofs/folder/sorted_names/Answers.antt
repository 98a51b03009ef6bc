use Rattle.std.proofs.lemmas.List.Sorted.{Contains-permutation, IsPermutation-sym}
use Rattle.dl_tool.proofs.folder.sorted_names.Goals as goal

pub returns-clause-names : goal.returns-clause-names
returns-clause-names g c honest f =
    let names = c.in_ok-names.names.items in
    let sorted = c.sort_unstable.new.self.items in
    let permuted = c.sort_unstable.ensures.permutation in
    let listed = (c.in_ok-names.ensures.names honest).1 f in (
      (λ has. listed.0 (Contains-permutation sorted names f (IsPermutation-sym names sorted permuted) has)),
      (λ there. Contains-permutation names sorted f permuted (listed.1 there)),
    )
