-- The parts of a function's list, and the words of levels and targets.
use Rattle.std.proofs.Common.{◌≡◌, List, Option, Some, refl, ap, sym, ◌∙◌}
use Rattle.std.specs.Prelude.{IfSome, IfNone, option_map}
use Rattle.std.proofs.Common.{◌≢◌}
use Rattle.c_values.specs.Name.{Name}
use Rattle.c_values.specs.Types.{Ilp32, Lp64}
use Rattle.expression_lang.specs.Sort.{Bytes}
use Rattle.ac_sx.specs.Tree.{Tree, Trees, more}
use Rattle.ac_sx.specs.CodeSx.{first_of}
use Rattle.expression_text.specs.ExpRows.{with_second}
use Rattle.expression_text.proofs.LookedUp.{AreFound, looked_up_from}
use Rattle.rule_text.proofs.NodesRead.{first_is}
use Rattle.certificate_text.specs.CertificateText.{target_word, targets, level_word, levels}
use Rattle.certificate_text.specs.CertificateReading.{found_in}

pub levels_found : AreFound level_word levels
levels_found Bytes = refl
levels_found _ = refl

pub targets_found : AreFound target_word targets
targets_found Ilp32 = refl
targets_found Lp64 = refl

pub found_from : {A X : Type 0} (word : A → Name) (all : List A) (view : X → A) (w : Name) (o : Option Name) (r : Option X) → AreFound word all → Some w ≡ o → IfSome r (λ x. w ≡ word (view x)) → IfNone r ((a : A) → w ≢ word a) → option_map view r ≡ found_in word all o
found_from word all view w o r found there is none = looked_up_from word all view w r found is none ∙ ap (found_in word all) there

pub two_first : (ts us vs : Trees) (t u : Tree) → Some (t, us) ≡ first_of ts → Some (u, vs) ≡ first_of us → Some (t, u, vs) ≡ with_second (first_of ts)
two_first ts us vs t u e f = sym (ap (λ ws. with_second (first_of ws)) (first_is ts us t e ∙ ap (λ ws. more t ws) (first_is us vs u f)))
