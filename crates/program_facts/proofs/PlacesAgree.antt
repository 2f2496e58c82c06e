-- What is written at two places with one head, whose children have the same values.
use Rattle.std.proofs.Common.{◌≡◌, suc, List, [], ◌∷◌, length, sym, subst, ap, ap₂}
use Rattle.c_values.specs.Name.{Name, with_name}
use Rattle.c_values.specs.Types.{CType}
use Rattle.c_values.specs.Value.{Value, nothing, word_in}
use Rattle.c_values.specs.Layout.{Layout}
use Rattle.c_values.specs.Path.{Step, upd}
use Rattle.c_memory.specs.Heap.{write_heap}
use Rattle.expression_lang.specs.Expression.{Exp, Path}
use Rattle.expression_lang.specs.Evaluation.{Env, State}
use Rattle.expression_lang.specs.Signature.{values_of}
use Rattle.ac_expr.specs.Heads.{path_children, path_head}
use Rattle.ac_expr.proofs.HeadsAgree.{steps_same, path_as_many}
use Rattle.monad_lang.specs.Program.{Place, Stored, Written, Global}
use Rattle.monad_lang.specs.Run.{written}
use Rattle.program_facts.specs.Places.{place_children, place_head}

abbrev pub type_in : CType → Place → CType
type_in d (Stored t p path) = t
type_in d (Written t p path) = t
type_in d (Global x path) = d

abbrev name_in : Place → Name
name_in (Stored t p path) = []
name_in (Written t p path) = []
name_in (Global x path) = x

abbrev pub path_in : Place → Path
path_in (Stored t p path) = path
path_in (Written t p path) = path
path_in (Global x path) = path

abbrev pub first_of : List Value → Value
first_of [] = nothing
first_of (v ∷ vs) = v

abbrev pub others_of : List Value → List Value
others_of [] = []
others_of (v ∷ vs) = vs

pub place_as_many : (q q' : Place) → place_head q' ≡ place_head q → length (place_children q') ≡ length (place_children q)
place_as_many (Stored t p path) (Stored t' p' path') h = ap (λ n. suc n) (path_as_many path path' (ap path_in h))
place_as_many (Written t p path) (Written t' p' path') h = ap (λ n. suc n) (path_as_many path path' (ap path_in h))
place_as_many (Global x path) (Global x' path') h = path_as_many path path' (ap path_in h)
place_as_many _ _ h = absurd cc

module _ (l : Layout) (env env' : Env) (s : State) where
  abbrev SameValues : List Exp → List Exp → Type 0
  SameValues es es' = values_of l env' s es' ≡ values_of l env s es

  heap_same : (t t' : CType) (p p' : Exp) (path path' : Path) (v : Value) → t' ≡ t → path_head path' ≡ path_head path → SameValues (p ∷ path_children path) (p' ∷ path_children path') →
      written l env' s (Stored t' p' path') v ≡ written l env s (Stored t p path) v
  heap_same t t' p p' path path' v e h k =
      subst (λ u. written l env' s (Stored u p' path') v ≡ written l env s (Stored t p path) v) (sym e)
      (ap₂ (λ (a : Value) (ps : List Step). let w : State = record { heap = write_heap l s.heap t (word_in a).bits ps v; globals = s.globals } in w)
      (ap first_of k) (steps_same l env env' s s path path' h (ap others_of k)))

  global_same : (x x' : Name) (path path' : Path) (v : Value) → x' ≡ x → path_head path' ≡ path_head path → SameValues (path_children path) (path_children path') →
      written l env' s (Global x' path') v ≡ written l env s (Global x path) v
  global_same x x' path path' v e h k =
      subst (λ y. written l env' s (Global y path') v ≡ written l env s (Global x path) v) (sym e)
      (ap (λ (ps : List Step). let w : State = record { heap = s.heap; globals = with_name x (upd (s.globals x) ps v) s.globals } in w)
      (steps_same l env env' s s path path' h k))

  pub written_same : (q q' : Place) (v : Value) → place_head q' ≡ place_head q → SameValues (place_children q) (place_children q') → written l env' s q' v ≡ written l env s q v
  written_same (Stored t p path) (Stored t' p' path') v h k = heap_same t t' p p' path path' v (ap (type_in t) h) (ap path_in h) k
  written_same (Written t p path) (Written t' p' path') v h k = heap_same t t' p p' path path' v (ap (type_in t) h) (ap path_in h) k
  written_same (Global x path) (Global x' path') v h k = global_same x x' path path' v (ap name_in h) (ap path_in h) k
  written_same _ _ v h k = absurd cc
