-- The groups of a switch, and the switch.
use Rattle.std.proofs.Common.{◌≡◌, ℕ, Bool, true, false, not, ◌&&◌, ◌||◌, List, [], refl}
use Rattle.std.proofs.lemmas.Bool.{or_left, or_right, or_from, not_from_false}
use Rattle.c_values.specs.Types.{IntType, CType, Integer, Void, Ptr, Struct, Array}
use Rattle.c_integers.specs.Integers.{promoted}
use Rattle.typing_rules.specs.Statements.{Around, inside_switch, switch_type, switches, Labels, no_labels, both, listed, separate}
use Rattle.c_lang.specs.Typed as C
use Rattle.c_lang.specs.WellTyped.{are_groups, all_labels, are_values, has_default, has_one_default}
use Rattle.c_lang.specs.WellTyped as W
use Rattle.typing_laws.proofs.Tests as tests
use Rattle.typing_laws.proofs.Rulings.{Rules, ruled, refused, refused_or}
use Rattle.typing_laws.proofs.Operators.{IsTyped, to_integer_typed, scalar_of}
use Rattle.typing_laws.proofs.Labels.{IsLabels, AreNew, new_append, new_different, values_append}
use Rattle.typing_laws.proofs.StatementRules.{Matches, in_switch, IsSt, AreSt, listed_st}

-- groups behind labels that were seen
pub record IsGroups (c : Around) (i : IntType) (seen : Labels) (g : W.Scope) (xs : C.Groups) : Type 0 where
  pub typed : g.result ≡ c.result → (r : W.Around) → Matches c r → are_groups g r xs ≡ true
  pub values : are_values g.layout.target i (all_labels xs) ≡ true
  pub new : AreNew seen.values (all_labels xs)
  pub default : seen.has_default ≡ true → has_default xs ≡ false
  pub one : has_one_default xs ≡ true

pub no_groups_typed : (c : Around) (i : IntType) (seen : Labels) (g : W.Scope) → IsGroups c i seen g C.no_groups
no_groups_typed c i seen g = record { typed = λ e r m. refl; values = refl; new = tt; default = λ d. refl; one = refl }

not_twice : (a b : Bool) → (a ≡ true → b ≡ false) → not (a && b) ≡ true
not_twice true b h = not_from_false b (h refl)
not_twice false b h = refl

pub group_typed : (c : Around) (i : IntType) (seen found : Labels) (g : W.Scope) (ss : List C.Statement) (xs : C.Groups) → IsLabels i seen g found → AreSt c g ss → IsGroups c i (both seen found) g xs →
    IsGroups c i seen g (C.group found.values found.has_default (listed ss) xs)
group_typed c i seen found g ss xs l h k = record {
  typed = λ e r m. tests.both (listed_st c g ss h e r m) (k.typed e r m);
  values = values_append g.layout.target i found.values (all_labels xs) l.values k.values;
  new = new_append seen.values found.values (all_labels xs) l.new k.new;
  default = λ d. or_from found.has_default (has_default xs) (l.default d) (k.default (or_left seen.has_default found.has_default d));
  one = tests.both (not_twice found.has_default (has_default xs) (λ d. k.default (or_right seen.has_default found.has_default d))) k.one;
}

pub separate_typed : (c : Around) (g : W.Scope) (last jumps : Bool) (ss : List C.Statement) → AreSt c g ss → Rules (AreSt c g) (separate last jumps ss)
separate_typed c g last jumps ss h = refused_or (not (last || jumps)) _ _ (λ e. ruled h)

-- a switch over an operand
pub switches_typed : (c : Around) (g : W.Scope) (n : ℕ) (a : C.Expr) (t : CType) (xs : C.Groups) → C.type_of a ≡ t → IsTyped g a → IsGroups (inside_switch c) (switch_type t) no_labels g xs →
    Rules (IsSt c g) (switches n a t xs)
switches_typed c g n a (Integer i) xs e h k = ruled (λ same r m.
    tests.both (tests.both (tests.both (tests.both (to_integer_typed g (promoted i) a (scalar_of (C.type_of a) (Integer i) e refl) h) k.values) (new_different [] (all_labels xs) k.new)) k.one)
    (k.typed same (W.in_a_switch r) (in_switch c r m)))
switches_typed c g n a Void xs e h k = refused
switches_typed c g n a (Ptr t) xs e h k = refused
switches_typed c g n a (Struct x) xs e h k = refused
switches_typed c g n a (Array t m) xs e h k = refused
