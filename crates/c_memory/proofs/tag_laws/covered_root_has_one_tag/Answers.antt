use Rattle.std.proofs.Common.{ap, ◌∙◌, sym}
use Rattle.c_values.proofs.Options.{some_is}
use Rattle.c_memory.specs.Tags.{path_from}
use Rattle.c_memory.proofs.Covered.{one_tag}
use Rattle.c_memory.proofs.tag_laws.covered_root_has_one_tag.Goals as goal

pub returns : goal.returns
returns c l tags u v t a p q h known among_u among_v e f =
    let same = one_tag l tags u v t a p q h known among_u among_v e f in
    (same, some_is (sym e ∙ ap (λ x. path_from l x t a) same ∙ f))
