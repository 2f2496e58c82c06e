-- The name is new and its value is an int, so the rule declares it.
use Rattle.std.proofs.Common.{◌≡◌, ℤ, ◌+ℤ◌, pos, false, not, ap, ◌∙◌, sym}
use Rattle.c_values.specs.Name.{Name}
use Rattle.c_values.specs.Number.{is_of_type}
use Rattle.c_values.specs.Types.{Int}
use Rattle.typing_rules.specs.Checked.{Ruled, refuse}
use Rattle.typing_rules.specs.declared.fault.TypeKind.TheVariants.{Twice, Mismatch}
use Rattle.typing_rules.specs.Declarations as declarations
use Rattle.typing_rules.specs.Scope.{Scope, Enumerator, declare}
use Rattle.typing_scope.specs.CodeScope.{scope_of}
use Rattle.typing_scope.proofs.scope.Scope.enumerator.Goals as goal

declared_new : (x : Name) (n next : ℤ) (s t : Scope) → declarations.has_name_here s x ≡ false → not (is_of_type s.layout.target Int n) ≡ false → next ≡ n +ℤ pos 1 → t ≡ declare x (Enumerator n) s → declarations.enumerator x n s ≡ Ruled (next, t)
declared_new x n next s t new int follows declared =
    ap (λ b. refuse b Twice (refuse (not (is_of_type s.layout.target Int n)) Mismatch (Ruled (n +ℤ pos 1, declare x (Enumerator n) s)))) new
    ∙ ap (λ b. refuse b Mismatch (Ruled (n +ℤ pos 1, declare x (Enumerator n) s))) int
    ∙ ap (λ m. Ruled (m, declare x (Enumerator n) s)) (sym follows)
    ∙ ap (λ u. Ruled (next, u)) (sym declared)

pub returns : goal.returns
returns c =
    declared_new c.args.name.now c.args.value c.in_ok-next_value.field-0 (scope_of c.args.self.now) (scope_of c.add_enumerator.new.self) (cc (c.in_ok-refuse.ensures, c.has_name_here.ensures)) (cc (c.in_ok-refuse-2.ensures, c.is_of_type.ensures)) (cc c.in_ok-next_value.ensures) (cc c.in_ok-add_enumerator.ensures)
