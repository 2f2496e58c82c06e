-- Which expressions on bytes, once their loads are reads, become expressions on numbers: each sum, negation and signed division
-- is of numbers, by what is known where it stands.
use Rattle.std.proofs.Common.{◌≡◌, ℕ, Bool, true, List, refl}
use Rattle.std.proofs.lemmas.Bool.{and_from}
use Rattle.expression_lang.specs.Expression as X
use Rattle.expression_lang.specs.Expression.{Exp, Path}
use Rattle.expression_lang.specs.Form.{is_arithmetic, is_negation}
use Rattle.expression_lang.specs.Sort.{Scope}
use Rattle.expression_lang.specs.Signature.{Binder}
use Rattle.ac_expr.specs.Fact.{Whole, NotTrue}
use Rattle.rule_heap.specs.ExpLifted.{exp_lifted, path_lifted}
use Rattle.rule_word.specs.Rule.{View, Unsigned, Signed}
use Rattle.rule_word.specs.Scopes.{own, width_in}
use Rattle.rule_word.specs.Table.{truth}
use Rattle.rule_word.specs.Bases.{Surroundings, under}
use Rattle.rule_word.specs.WordsAbstracted.{Abstracted, Operands, or_zero, operands, binary_base, negation_base, abstracted}
use Rattle.rule_word.specs.Ready.{is_exact, ready, path_ready}

module _ (same : Exp → Exp → Bool) (g : Scope) (names : List Binder) where
  -- what an expression becomes, and what a test does
  abbrev pub become_at : Surroundings → Exp → View → Abstracted
  become_at k e v = abstracted same true g names k (exp_lifted e) v

  abbrev pub tested : Surroundings → Exp → Exp
  tested k e = (become_at k e truth).right

  abbrev pub width_at : Exp → ℕ
  width_at e = or_zero (width_in g (exp_lifted e))

  abbrev pub operands_at : Surroundings → Exp → Exp → Operands
  operands_at k a b =
      operands (λ w. become_at k a w) (λ w. become_at k b w) (own g (exp_lifted a)) (own g (exp_lifted b)) (width_at a)

  abbrev mutual
    pub IsReady : Surroundings → Exp → Type 0
    IsReady k (X.Var x) = Unit {0}
    IsReady k (X.WordLit w) = Unit {0}
    IsReady k (X.NumberLit n) = Unit {0}
    IsReady k (X.TruthLit b) = Unit {0}
    IsReady k (X.WordBinary op a b) =
        (is_exact true (is_arithmetic op) (binary_base same true k (width_at a) op (operands_at k a b)) ≡ true) × IsReady k a ×
        IsReady k b
    IsReady k (X.WordShift op a n) = IsReady k a × IsReady k n
    IsReady k (X.WordUnary op a) =
        (is_exact true (is_negation op) (negation_base same true k (width_at a) op (become_at k a (Unsigned (width_at a)))
        (become_at k a (Signed (width_at a)))) ≡ true) × IsReady k a
    IsReady k (X.WordCompare test a b) = IsReady k a × IsReady k b
    IsReady k (X.Cast op m a) = IsReady k a
    IsReady k (X.ToNat a) = IsReady k a
    IsReady k (X.ToInt a) = IsReady k a
    IsReady k (X.ToWord m a) = IsReady k a
    IsReady k (X.Arith op a b) = IsReady k a × IsReady k b
    IsReady k (X.Negate a) = IsReady k a
    IsReady k (X.Lt a b) = IsReady k a × IsReady k b
    IsReady k (X.Le a b) = IsReady k a × IsReady k b
    IsReady k (X.Between low a high) = IsReady k a
    IsReady k (X.Eq a b) = IsReady k a × IsReady k b
    IsReady k (X.And a b) = IsReady k a × IsReady (under (Whole (tested k a)) k) b
    IsReady k (X.Or a b) = IsReady k a × IsReady (under (NotTrue (tested k a)) k) b
    IsReady k (X.Imp a b) = IsReady k a × IsReady (under (Whole (tested k a)) k) b
    IsReady k (X.Not a) = IsReady k a
    IsReady k (X.If c a b) = IsReady k c × IsReady (under (Whole (tested k c)) k) a × IsReady (under (NotTrue (tested k c)) k) b
    IsReady k (X.Padd t p n) = IsReady k p × IsReady k n
    IsReady k (X.At t p path) = IsReady k p × IsPathReady k path
    IsReady k (X.Load t p path) = IsReady k p × IsPathReady k path
    IsReady k (X.Read t p path) = IsReady k p × IsPathReady k path
    IsReady k (X.Tagged t p) = IsReady k p
    IsReady k (X.PtrOk t p) = IsReady k p
    IsReady k (X.Global x path) = IsPathReady k path
    IsReady k (X.Sel e path) = IsReady k e × IsPathReady k path
    IsReady k (X.Upd e path v) = IsReady k e × IsPathReady k path × IsReady k v

    pub IsPathReady : Surroundings → Path → Type 0
    IsPathReady k X.Here = Unit {0}
    IsPathReady k (X.IntoField n path) = IsPathReady k path
    IsPathReady k (X.IntoElement e path) = IsReady k e × IsPathReady k path

  mutual
    pub done : (k : Surroundings) (e : Exp) → IsReady k e → ready same true g names k (exp_lifted e) ≡ true
    done k (X.WordBinary op a b) h = and_from _ _ (and_from _ _ h.0 (done k a h.1)) (done k b h.2)
    done k (X.WordShift op a n) h = and_from _ _ (done k a h.0) (done k n h.1)
    done k (X.WordUnary op a) h = and_from _ _ h.0 (done k a h.1)
    done k (X.WordCompare test a b) h = and_from _ _ (done k a h.0) (done k b h.1)
    done k (X.Cast op m a) h = done k a h
    done k (X.ToNat a) h = done k a h
    done k (X.ToInt a) h = done k a h
    done k (X.ToWord m a) h = done k a h
    done k (X.Arith op a b) h = and_from _ _ (done k a h.0) (done k b h.1)
    done k (X.Negate a) h = done k a h
    done k (X.Lt a b) h = and_from _ _ (done k a h.0) (done k b h.1)
    done k (X.Le a b) h = and_from _ _ (done k a h.0) (done k b h.1)
    done k (X.Between low a high) h = done k a h
    done k (X.Eq a b) h = and_from _ _ (done k a h.0) (done k b h.1)
    done k (X.And a b) h = and_from _ _ (done k a h.0) (done (under (Whole (tested k a)) k) b h.1)
    done k (X.Or a b) h = and_from _ _ (done k a h.0) (done (under (NotTrue (tested k a)) k) b h.1)
    done k (X.Imp a b) h = and_from _ _ (done k a h.0) (done (under (Whole (tested k a)) k) b h.1)
    done k (X.Not a) h = done k a h
    done k (X.If c a b) h =
        and_from _ _ (and_from _ _ (done k c h.0) (done (under (Whole (tested k c)) k) a h.1))
        (done (under (NotTrue (tested k c)) k) b h.2)
    done k (X.Padd t p n) h = and_from _ _ (done k p h.0) (done k n h.1)
    done k (X.At t p path) h = and_from _ _ (done k p h.0) (path_done k path h.1)
    done k (X.Load t p path) h = and_from _ _ (done k p h.0) (path_done k path h.1)
    done k (X.Read t p path) h = and_from _ _ (done k p h.0) (path_done k path h.1)
    done k (X.Tagged t p) h = done k p h
    done k (X.PtrOk t p) h = done k p h
    done k (X.Global x path) h = path_done k path h
    done k (X.Sel e path) h = and_from _ _ (done k e h.0) (path_done k path h.1)
    done k (X.Upd e path v) h = and_from _ _ (and_from _ _ (done k e h.0) (path_done k path h.1)) (done k v h.2)
    done _ _ _ = refl

    pub path_done : (k : Surroundings) (path : Path) → IsPathReady k path →
        path_ready same true g names k (path_lifted path) ≡ true
    path_done k X.Here h = refl
    path_done k (X.IntoField n path) h = path_done k path h
    path_done k (X.IntoElement e path) h = and_from _ _ (done k e h.0) (path_done k path h.1)
