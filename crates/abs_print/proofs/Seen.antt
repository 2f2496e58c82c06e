-- What two views show, one behind the other.
use Rattle.std.proofs.Common.{◌≡◌, List, [], ◌∷◌, length, false, map, refl, ap}
use Rattle.std.specs.Prelude.{◌==◌, codes}
use Rattle.expression_lang.specs.declared.expression.Exp as E
use Rattle.expression_lang.specs.declared.signatures.Binder as B
use Rattle.expression_lang.specs.declared.sort.Kind as K
use Rattle.monad_lang.specs.declared.program.Start as S
use Rattle.monad_lang.specs.declared.program.FinalFn as F
use Rattle.expression_lang.specs.CodeExpression.{exp_of, kind_of}
use Rattle.expression_lang.specs.CodeSignature.{binder_of}
use Rattle.monad_lang.specs.CodeProgram.{start_of, final_fn_of}
use Rattle.abs_print.specs.Texts.{Text, parted}
use Rattle.abs_print.specs.Expressions.{exp_text}
use Rattle.abs_print.specs.Programs.{kind_text, start_text, binder_text, results_text, function_text}

map_map : {X Y Z : Type 0} (f : X → Y) (g : Y → Z) (xs : List X) → map g (map f xs) ≡ map (λ x. g (f x)) xs
map_map f g [] = refl
map_map f g (x ∷ xs) = ap (λ r. g (f x) ∷ r) (map_map f g xs)

abbrev pub exps_shown : List E.Exp → List Text
exps_shown es = map (λ e. exp_text (exp_of e)) es

abbrev pub starts_shown : List S.Start → List Text
starts_shown xs = map (λ x. start_text (start_of x)) xs

abbrev pub binders_shown : List B.Binder → List Text
binders_shown bs = map (λ b. binder_text (binder_of b)) bs

pub exps_seen : (es : List E.Exp) → map exp_text (map exp_of es) ≡ map (λ e. exp_text (exp_of e)) es
exps_seen = map_map exp_of exp_text

pub starts_seen : (xs : List S.Start) → map start_text (map start_of xs) ≡ map (λ x. start_text (start_of x)) xs
starts_seen = map_map start_of start_text

pub kinds_seen : (ks : List K.Kind) → map kind_text (map kind_of ks) ≡ map (λ k. kind_text (kind_of k)) ks
kinds_seen = map_map kind_of kind_text

-- some results
pub results_seen : (ks : List K.Kind) → (length ks == 0) ≡ false → results_text (map kind_of ks) ≡ parted (codes ", ") (map (λ k. kind_text (kind_of k)) ks)
results_seen [] h = absurd cc
results_seen (k ∷ ks) h = ap (parted (codes ", ")) (kinds_seen (k ∷ ks))

pub binders_seen : (bs : List B.Binder) → map binder_text (map binder_of bs) ≡ map (λ b. binder_text (binder_of b)) bs
binders_seen = map_map binder_of binder_text

pub functions_seen : (fs : List F.FinalFn) → map function_text (map final_fn_of fs) ≡ map (λ f. function_text (final_fn_of f)) fs
functions_seen = map_map final_fn_of function_text
