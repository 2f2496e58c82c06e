-- The words of the rules of derivations: of those that stand alone, and of those that a list begins with.
use Rattle.std.specs.Prelude.{List, [], ◌∷◌, codes}
use Rattle.c_values.specs.Name.{Name}
use Rattle.triple_text.specs.declared.entail_heads.EntailLeaf.{EntailLeaf}
use Rattle.triple_text.specs.declared.entail_heads.EntailLeaf.TheVariants as L
use Rattle.triple_text.specs.declared.entail_heads.EntailHead.{EntailHead}
use Rattle.triple_text.specs.declared.entail_heads.EntailHead.TheVariants as E
use Rattle.triple_text.specs.declared.deriv_heads.DerivHead.{DerivHead}
use Rattle.triple_text.specs.declared.deriv_heads.DerivHead.TheVariants as D

abbrev pub entail_leaf_word : EntailLeaf → Name
entail_leaf_word L.Hyp = codes "hyp"
entail_leaf_word L.Same = codes "same"
entail_leaf_word L.Compute = codes "compute"
entail_leaf_word L.Range = codes "range"

abbrev pub entail_leaves : List EntailLeaf
entail_leaves = L.Hyp ∷ L.Same ∷ L.Compute ∷ L.Range ∷ []

abbrev pub entail_head_word : EntailHead → Name
entail_head_word E.And = codes "and"
entail_head_word E.Imp = codes "imp"
entail_head_word E.Or = codes "or"
entail_head_word E.Not = codes "not"
entail_head_word E.Between = codes "between"
entail_head_word E.Case = codes "case"
entail_head_word E.Cut = codes "cut"
entail_head_word E.Absurd = codes "absurd"
entail_head_word E.Rewrite = codes "rewrite"
entail_head_word E.Step = codes "step"
entail_head_word E.Linear = codes "linear"

abbrev pub entail_heads : List EntailHead
entail_heads = E.And ∷ E.Imp ∷ E.Or ∷ E.Not ∷ E.Between ∷ E.Case ∷ E.Cut ∷ E.Absurd ∷ E.Rewrite ∷ E.Step ∷ E.Linear ∷ []

abbrev pub deriv_head_word : DerivHead → Name
deriv_head_word D.Ret = codes "ret"
deriv_head_word D.Bind = codes "bind"
deriv_head_word D.Guard = codes "guard"
deriv_head_word D.If = codes "if"
deriv_head_word D.Loop = codes "loop"
deriv_head_word D.Call = codes "call"
deriv_head_word D.Pick = codes "pick"
deriv_head_word D.Write = codes "write"
deriv_head_word D.Gset = codes "gset"

abbrev pub deriv_heads : List DerivHead
deriv_heads = D.Ret ∷ D.Bind ∷ D.Guard ∷ D.If ∷ D.Loop ∷ D.Call ∷ D.Pick ∷ D.Write ∷ D.Gset ∷ []
