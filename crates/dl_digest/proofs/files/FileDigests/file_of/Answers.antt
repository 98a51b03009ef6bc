use Rattle.std.proofs.Common.{◌++◌, ◌∷◌, [], List, Option, sym, ap, ◌∙◌, subst}
use Rattle.std.proofs.lemmas.List.{map-append}
use Rattle.dl_digest.specs.declared.files.FileDigest.{FileDigest}
use Rattle.dl_digest.specs.declared.files.OpenFile.{OpenFile}
use Rattle.dl_digest.specs.Files.{by_file, file_digest, FileItems, HoldsAll}
use Rattle.dl_digest.proofs.ByFile.{same_file, next_file, first_file}
use Rattle.dl_digest.proofs.files.FileDigests.file_of.Goals as goal

pub returns-in-Some : goal.returns-in-Some
returns-in-Some g c parts held =
    let done = c.args.self.now.done.items in
    let h = subst (λ (last : Option OpenFile). HoldsAll done last (by_file parts)) (sym c.take.ensures.value ∙ c.in-Some.is) held in
    record {
      fronts = h.fronts;
      items = h.items;
      whole = λ more. same_file parts c.args.generation more h.fronts c.in-Some.file.generation h.items h.whole c.if-take-generation.true;
      same = c.if-take-generation.true;
      digests = h.digests;
      taken = h.taken;
    }

pub returns-in_ok-push-in-Some-2 : goal.returns-in_ok-push-in-Some-2
returns-in_ok-push-in-Some-2 g c parts held =
    let done = c.args.self.now.done.items in
    let file = c.in-Some.file in
    let h = subst (λ (last : Option OpenFile). HoldsAll done last (by_file parts)) (sym c.take.ensures.value ∙ c.in-Some.is) held in
    let ended : FileItems = record { generation = file.generation; items = h.items } in
    record {
      fronts = h.fronts ++ ended ∷ [];
      items = [];
      whole = λ more. next_file parts c.args.generation more h.fronts file.generation h.items h.whole c.if-take-generation.false;
      same = c.new.ensures.generation;
      digests = c.in_ok-push-in-Some-2.ensures.items ∙ ap (λ (f : FileDigest). done ++ f ∷ []) (c.finish.ensures h.items h.taken) ∙ ap (λ (l : List FileDigest). l ++ file_digest ended ∷ []) h.digests ∙ sym (map-append file_digest h.fronts (ended ∷ []));
      taken = c.new.ensures.none;
    }

pub returns-in-None : goal.returns-in-None
returns-in-None g c parts held =
    let done = c.args.self.now.done.items in
    let h = subst (λ (last : Option OpenFile). HoldsAll done last (by_file parts)) (sym c.take.ensures.value ∙ c.in-None.is) held in
    record {
      fronts = [];
      items = [];
      whole = λ more. first_file parts c.args.generation more h.1;
      same = c.new-in-None.ensures.generation;
      digests = h.0;
      taken = c.new-in-None.ensures.none;
    }
