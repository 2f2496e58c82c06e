-- What the code's programs stand for.
use Rattle.std.specs.Prelude.{map, string_bytes}
use Rattle.c_values.specs.CodeTypes.{type_of}
use Rattle.c_values.specs.CodeValue.{global_of}
use Rattle.expression_lang.specs.CodeExpression.{exp_of, path_of, level_of, kind_of}
use Rattle.expression_lang.specs.CodeSignature.{binder_of}
use Rattle.monad_lang.specs.declared.program.Place as P
use Rattle.monad_lang.specs.declared.program.Start as S
use Rattle.monad_lang.specs.declared.program.Mon as M
use Rattle.monad_lang.specs.declared.program.FinalFn as F
use Rattle.c_values.specs.declared.program.Program as U
use Rattle.monad_lang.specs.Program.{Place, Stored, Written, Global, Start, Mon, Ret, Bind, Guard, If, Write, Loop, Call, Pick, FinalFn, FinalUnit}

abbrev pub place_of : P.Place → Place
place_of (P.TheVariants.Stored t p path) = Stored (type_of t) (exp_of p) (path_of path)
place_of (P.TheVariants.Written t p path) = Written (type_of t) (exp_of p) (path_of path)
place_of (P.TheVariants.Global x path) = Global (string_bytes x) (path_of path)

abbrev pub start_of : S.Start → Start
start_of x = record { name = string_bytes x.name; exp = exp_of x.exp }

abbrev pub mon_of : M.Mon → Mon
mon_of (M.Ret es) = Ret (map exp_of es.items)
mon_of (M.Bind' p m xs q n) = Bind (mon_of m) (map string_bytes xs.items) (mon_of n)
mon_of (M.Guard e) = Guard (exp_of e)
mon_of (M.If' e p m q n) = If (exp_of e) (mon_of m) (mon_of n)
mon_of (M.Write place e) = Write (place_of place) (exp_of e)
mon_of (M.Loop' starts guard test p m) = Loop (map start_of starts.items) (exp_of guard) (exp_of test) (mon_of m)
mon_of (M.Call f es) = Call (string_bytes f) (map exp_of es.items)
mon_of (M.Pick k) = Pick (kind_of k)

abbrev pub final_fn_of : F.FinalFn → FinalFn
final_fn_of f = record { name = string_bytes f.name; level = level_of f.level; params = map binder_of f.params.items; results = map kind_of f.results.items; body = mon_of f.body }

abbrev pub final_unit_of : U.Program F.FinalFn → FinalUnit
final_unit_of u = record { layout = u.layout; globals = map global_of u.globals.items; functions = map final_fn_of u.functions.items }
