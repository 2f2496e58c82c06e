-- What the code's commands, functions and units stand for.
use Rattle.std.specs.Prelude.{map, string_bytes}
use Rattle.std.specs.Option.{option_map}
use Rattle.c_values.specs.CodeTypes.{type_of}
use Rattle.c_values.specs.CodeValue.{global_of}
use Rattle.expression_lang.specs.CodeExpression.{exp_of, path_of, level_of}
use Rattle.expression_lang.specs.CodeSignature.{binder_of, signature_of}
use Rattle.simpl_lang.specs.declared.command.GuardKind as G
use Rattle.simpl_lang.specs.declared.command.Condition as C
use Rattle.simpl_lang.specs.declared.command.Simpl as S
use Rattle.simpl_lang.specs.declared.units.SimplFn as F
use Rattle.simpl_lang.specs.declared.units.SimplUnit as U
use Rattle.expression_lang.specs.GuardKind.{GuardKind, Div, Signed, Shift, Pointer, Bounds, Unreached, Tag, Wrap}
use Rattle.simpl_lang.specs.Command.{Condition, Simpl, Skip, Throw, Set, SetGlobal, Store, Pick, Seq, Cond, Guard, Catch, While, Call, SimplFn, SimplUnit}

abbrev pub guard_kind_of : G.GuardKind → GuardKind
guard_kind_of G.TheVariants.Div = Div
guard_kind_of G.TheVariants.Signed = Signed
guard_kind_of G.TheVariants.Shift = Shift
guard_kind_of G.TheVariants.Pointer = Pointer
guard_kind_of G.TheVariants.Bounds = Bounds
guard_kind_of G.TheVariants.Unreached = Unreached
guard_kind_of G.TheVariants.Tag = Tag
guard_kind_of G.TheVariants.Wrap = Wrap

abbrev pub condition_of : C.Condition → Condition
condition_of c = record { kind = guard_kind_of c.kind; exp = exp_of c.exp }

abbrev pub simpl_of : S.Simpl → Simpl
simpl_of S.Skip = Skip
simpl_of S.Throw = Throw
simpl_of (S.Set x e) = Set (string_bytes x) (exp_of e)
simpl_of (S.SetGlobal x path e) = SetGlobal (string_bytes x) (path_of path) (exp_of e)
simpl_of (S.Store t p path e) = Store (type_of t) (exp_of p) (path_of path) (exp_of e)
simpl_of (S.Pick x) = Pick (string_bytes x)
simpl_of (S.Seq' p a q b) = Seq (simpl_of a) (simpl_of b)
simpl_of (S.Cond' e p a q b) = Cond (exp_of e) (simpl_of a) (simpl_of b)
simpl_of (S.Guard' c p a) = Guard (condition_of c) (simpl_of a)
simpl_of (S.Catch' p a q b) = Catch (simpl_of a) (simpl_of b)
simpl_of (S.While' cs e p a) = While (map condition_of cs.items) (exp_of e) (simpl_of a)
simpl_of (S.Call x f es) = Call (option_map string_bytes x) (string_bytes f) (map exp_of es.items)

abbrev pub simpl_fn_of : F.SimplFn → SimplFn
simpl_fn_of f = record { name = string_bytes f.name; locals = map binder_of f.locals.items; level = level_of f.level; body = simpl_of f.body }

abbrev pub simpl_unit_of : U.SimplUnit → SimplUnit
simpl_unit_of u = record { layout = u.layout; globals = map global_of u.globals.items; functions = map simpl_fn_of u.functions.items; signatures = map signature_of u.signatures.items }
