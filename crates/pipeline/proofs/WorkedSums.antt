-- Programs whose sums are guarded at one place and stand at another, as they are generated for some C functions: each is ready. In all of
-- them a sum of two words is guarded as signed and as unsigned.
use Rattle.std.proofs.Common.{◌≡◌, ◌==◌, Bool, true, false, ◌&&◌, List, [], ◌∷◌, None, ℤ, pos, refl}
use Rattle.std.specs.Prelude.{int_le}
use Rattle.c_values.specs.Name.{same_name}
use Rattle.c_values.specs.Types.{Lp64}
use Rattle.c_values.specs.Word.{Wadd, Wsdiv, word}
use Rattle.c_values.specs.Number as N
use Rattle.c_values.specs.Number.{least, greatest}
use Rattle.expression_lang.specs.Expression as X
use Rattle.expression_lang.specs.Expression.{Exp}
use Rattle.expression_lang.specs.Sort.{Kind, IntKind, NatKind}
use Rattle.expression_lang.specs.Signature.{Binder, binder}
use Rattle.monad_lang.specs.Program as M
use Rattle.monad_lang.specs.Program.{Mon}
use Rattle.rule_word.specs.Rule.{Context}
use Rattle.rule_word.specs.Ready.{program_ready}

abbrev same_op : N.NumberOp → N.NumberOp → Bool
same_op N.Add N.Add = true
same_op N.Sub N.Sub = true
same_op N.Mul N.Mul = true
same_op N.Div N.Div = true
same_op N.Mod N.Mod = true
same_op N.Neg N.Neg = true
same_op _ _ = false

abbrev same_int : ℤ → ℤ → Bool
same_int a b = int_le a b && int_le b a

abbrev same : Exp → Exp → Bool
same (X.Var x) (X.Var y) = same_name x y
same (X.WordLit w) (X.WordLit v) = (w.width == v.width) && (w.bits == v.bits)
same (X.NumberLit m) (X.NumberLit n) = same_int m n
same (X.TruthLit true) (X.TruthLit true) = true
same (X.TruthLit false) (X.TruthLit false) = true
same (X.WordBinary Wadd a b) (X.WordBinary Wadd c d) = same a c && same b d
same (X.WordBinary Wsdiv a b) (X.WordBinary Wsdiv c d) = same a c && same b d
same (X.ToNat a) (X.ToNat b) = same a b
same (X.ToInt a) (X.ToInt b) = same a b
same (X.ToWord m a) (X.ToWord n b) = (m == n) && same a b
same (X.Arith o a b) (X.Arith p c d) = same_op o p && same a c && same b d
same (X.Between l a h) (X.Between m b k) = same_int l m && same_int h k && same a b
same (X.Eq a b) (X.Eq c d) = same a c && same b d
same (X.Lt a b) (X.Lt c d) = same a c && same b d
same (X.Le a b) (X.Le c d) = same a c && same b d
same (X.And a b) (X.And c d) = same a c && same b d
same (X.Or a b) (X.Or c d) = same a c && same b d
same (X.Imp a b) (X.Imp c d) = same a c && same b d
same (X.Not a) (X.Not b) = same a b
same (X.If a b c) (X.If d e f) = same a d && same b e && same c f
same _ _ = false

abbrev ctx : Context
ctx = record { layout = record { target = Lp64; structs = [] }; globals = []; functions = [] }

abbrev names : List Binder
names = binder (97 ∷ []) (IntKind 32) ∷ binder (115 ∷ []) (IntKind 32) ∷ binder (116 ∷ []) (IntKind 32) ∷ []

abbrev va : Exp
va = X.Var (97 ∷ [])

abbrev vs : Exp
vs = X.Var (115 ∷ [])

abbrev vt : Exp
vt = X.Var (116 ∷ [])

abbrev lit : ℤ → Exp
lit n = X.WordLit (word 32 n)

abbrev sum : Exp → Exp → Exp
sum a b = X.WordBinary Wadd a b

abbrev signed_guard : Exp → Exp → Exp
signed_guard a b = X.Between (least true 32) (X.Arith N.Add (X.ToInt a) (X.ToInt b)) (greatest true 32)

abbrev wrap_guard : Exp → Exp → Exp
wrap_guard a b = X.Between (least false 32) (X.Arith N.Add (X.ToNat a) (X.ToNat b)) (greatest false 32)

abbrev guards : List Exp → Mon → Mon
guards [] m = m
guards (g ∷ gs) m = M.Bind (M.Guard g) [] (guards gs m)

abbrev is_ready : Mon → Kind → Bool
is_ready m k = program_ready same true ctx (λ x. None) [] names m (k ∷ [])

abbrev S : Exp
S = sum vs vt

abbrev nonzero : Exp → Exp
nonzero e = X.Not (X.Eq e (lit (pos 0)))

abbrev truth_int : Exp → Exp
truth_int b = X.If b (lit (pos 1)) (lit (pos 0))

-- unsigned f(int s, int t){return ((unsigned)(s + t) + 1u) + ((unsigned)s + (unsigned)t);}
abbrev T1 : Exp
T1 = sum S (lit (pos 1))

pub both_bases : is_ready (guards (signed_guard vs vt ∷ wrap_guard S (lit (pos 1)) ∷ wrap_guard vs vt ∷ wrap_guard T1 S ∷ []) (M.Ret (sum T1 S ∷ []))) (NatKind 32) ≡ true
both_bases = refl

-- int f(int a, int s, int t){return ((a && (s + t)) + 1) + (int)((unsigned)s + (unsigned)t);}
abbrev test : Exp
test = nonzero va

abbrev B : Exp
B = truth_int (X.And test (nonzero S))

abbrev T2 : Exp
T2 = sum B (lit (pos 1))

pub under_a_condition : is_ready (guards (X.Imp test (signed_guard vs vt) ∷ signed_guard B (lit (pos 1)) ∷ wrap_guard vs vt ∷ signed_guard T2 S ∷ []) (M.Ret (sum T2 S ∷ []))) (IntKind 32) ≡ true
under_a_condition = refl

-- unsigned f(int a, int s, int t){return ((unsigned)(a && (s + t)) + (((unsigned)s + (unsigned)t) + 1u)) + (unsigned)(8 / a);}
abbrev T3 : Exp
T3 = sum B T1

abbrev Q : Exp
Q = X.WordBinary Wsdiv (lit (pos 8)) va

pub behind_a_division : is_ready (guards (X.Imp test (signed_guard vs vt) ∷ wrap_guard vs vt ∷ wrap_guard S (lit (pos 1)) ∷ wrap_guard B T1 ∷ nonzero va ∷ X.Between (least true 32) (X.Arith N.Div (X.ToInt (lit (pos 8))) (X.ToInt va)) (greatest true 32) ∷ wrap_guard T3 Q ∷ []) (M.Ret (sum T3 Q ∷ []))) (NatKind 32) ≡ true
behind_a_division = refl

-- the same two in a loop's test
abbrev conj : List Exp → Exp
conj (g ∷ []) = g
conj (g ∷ gs) = X.And g (conj gs)
conj [] = X.TruthLit true

abbrev looped : List Exp → Exp → Mon
looped gs e = M.Loop [] (conj gs) e (M.Ret [])

abbrev ready_loop : Mon → Bool
ready_loop m = program_ready same true ctx (λ x. None) [] names m []

pub in_a_loop : ready_loop (looped (X.Imp test (signed_guard vs vt) ∷ signed_guard B (lit (pos 1)) ∷ wrap_guard vs vt ∷ signed_guard T2 S ∷ []) (nonzero (sum T2 S))) ≡ true
in_a_loop = refl

pub in_a_loop_behind_a_division : ready_loop (looped (X.Imp test (signed_guard vs vt) ∷ wrap_guard vs vt ∷ wrap_guard S (lit (pos 1)) ∷ wrap_guard B T1 ∷ nonzero va ∷ X.Between (least true 32) (X.Arith N.Div (X.ToInt (lit (pos 8))) (X.ToInt va)) (greatest true 32) ∷ wrap_guard T3 Q ∷ []) (nonzero (sum T3 Q))) ≡ true
in_a_loop_behind_a_division = refl
