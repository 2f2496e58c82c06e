-- The functions of a typed text have names, and their parameters and locals are numbered ones.
use Rattle.std.proofs.Common.{◌≡◌, ℕ, ◌^◌, ◌<◌, ◌≤◌, List, [], ◌∷◌, ◌++◌, length, filter_map, sym, subst, arith}
use Rattle.c_values.specs.Name.{Name}
use Rattle.c_values.specs.Types.{Target}
use Rattle.c_grammar.specs.Tree as tree
use Rattle.typing_rules.specs.declared.fault.TypeKind.{TypeKind}
use Rattle.typing_rules.specs.Scope.{Scope}
use Rattle.typing_rules.specs.Checked.{Checked, Good, Bad}
use Rattle.typing_rules.specs.Unit.{externals, body_name, at_beginning, unit_in, whole, IsTyped}
use Rattle.c_lang.specs.Typed as C
use Rattle.typing_laws.specs.Written.{Each, IsName, IsExternal, AreWritten}
use Rattle.typing_laws.specs.Count.{numbered_in}
use Rattle.typing_laws.proofs.Variables.{IsFew, AreNumbered}
use Rattle.typing_laws.proofs.Outcomes.{Gives, gives, fails}
use Rattle.typing_laws.proofs.Functions.{IsDone}
use Rattle.typing_laws.proofs.Units.{HasAtMost, function_names, HasFunctions, externals_given}
use Rattle.typing_laws.proofs.Whole.{beginning}

pub record IsNamed (f : C.TypedFn) : Type 0 where
  pub name : IsName f.name
  pub declared : List Name
  pub few : IsFew (length declared)
  pub numbered : AreNumbered declared (f.params ++ f.locals)

bodies_named : (xs : List tree.External) → Each IsExternal xs → Each IsName (filter_map body_name xs)
bodies_named [] h = tt
bodies_named (tree.Function ws (tree.Declare stars at x ns) ps is ∷ xs) h = (h.0.1.0, bodies_named xs h.1)
bodies_named (tree.Declaration at ws ts ∷ xs) h = bodies_named xs h.1

few_declared : (k l n : ℕ) → k ≡ l → l ≤ n → n < 2 ^ 64 → k < 2 ^ 64
few_declared k l n e h small = omega (arith, e, h, small)

all_named : (n : ℕ) → n < 2 ^ 64 → (z : Scope) (fs : List C.TypedFn) → Each (IsDone z) fs → Each (HasAtMost n) fs → Each IsName (function_names fs) → Each IsNamed fs
all_named n small z [] h few names = tt
all_named n small z (f ∷ fs) h few names =
    let one : IsNamed f = record {
      name = names.0;
      declared = h.0.declared;
      few = few_declared (length h.0.declared) (length (f.params ++ f.locals)) n h.0.progress.as_many few.0.0 small;
      numbered = h.0.progress.numbered;
    } in
    (one, all_named n small z fs h.1 few.1 names.1)

pub functions_named : (t : Target) (xs : List tree.External) (u : C.TypedUnit) → AreWritten xs → IsTyped t xs u → Each IsNamed u.functions
functions_named t xs u i e = by_outcome (externals xs (at_beginning t xs)) (externals_given xs i.externals (at_beginning t xs) (beginning t xs)) e
  where
    never : (at : ℕ) (kind : TypeKind) → ◌≡◌ {A = Checked C.TypedUnit} (Bad at kind) (Good u) → ⊥
    never at kind k = cc

    functions_same : (v : C.TypedUnit) → ◌≡◌ {A = Checked C.TypedUnit} (Good v) (Good u) → v.functions ≡ u.functions
    functions_same v k = cc

    by_outcome : (c : Checked (List C.TypedFn × Scope)) → Gives (HasFunctions (filter_map body_name xs) (numbered_in xs) (at_beginning t xs)) c → whole c ≡ Good u → Each IsNamed u.functions
    by_outcome _ (gives p h) k =
        subst (Each IsNamed) (functions_same (unit_in p.0 p.1) k)
        (all_named (numbered_in xs) i.few p.1 p.0 h.done h.few (subst (Each IsName) (sym h.names) (bodies_named xs i.externals)))
    by_outcome _ (fails {at} {kind}) k = absurd (never at kind k)
