-- How many locals the statements of a body declare.
use Rattle.std.proofs.Common.{ℕ, ◌+◌, List, [], ◌∷◌, ◌++◌, Option, ap, ◌∙◌, arith}
use Rattle.c_values.specs.Types.{IntType}
use Rattle.c_grammar.specs.Tree as tree
use Rattle.c_lang.specs.Typed as C
use Rattle.typing_rules.specs.Scope.{Scope, opened, hide_locals}
use Rattle.typing_rules.specs.Checked.{Good, Judgement, Ruling, Ruled, Refused, ruled, rule, in_block, then, ◌>>=◌}
use Rattle.typing_rules.specs.Expressions.{value}
use Rattle.typing_rules.specs.Simple.{simple}
use Rattle.typing_rules.specs.Locals.{local}
use Rattle.typing_rules.specs.Progress.{next_switch, next_do_while}
use Rattle.typing_rules.specs.Statements.{Around, inside_loop, inside_switch, switch_type, Labels, no_labels, both, labels, loop_tested, label_at, is_jump, ends_by_jump, is_last, separate, listed, start, loop_test, loop_step, optional_right, statement, items, groups}
use Rattle.typing_laws.specs.Written.{IsExp, IsStart, IsStmt, AreItems, AreGroups}
use Rattle.typing_laws.specs.Count as count
use Rattle.typing_laws.proofs.Operands.{value_reached}
use Rattle.typing_laws.proofs.Simple.{simple_reached}
use Rattle.typing_laws.proofs.Locals.{local_turns}
use Rattle.typing_laws.proofs.Labels.{labels_reached}
use Rattle.typing_laws.proofs.Bodies.{Vars, IsReady, turn_in_block, inner_ready}
use Rattle.typing_laws.proofs.Statements.{optional_reached, test_reached, step_reached, start_turns, statement_turns, items_turn, groups_turn}
use Rattle.typing_laws.proofs.Longer.{Longer, none, longer_more, longer_after, longer_itself, longer_rule, longer_reached, longer_in_block, longer_then, longer_behind, local_longer}
use Rattle.typing_laws.proofs.Scopes.{has_block}
use Rattle.typing_laws.proofs.Inner.{locals_hidden}

module _ (params : List C.Variable) where
  start_longer : (a : tree.Start) → IsStart a → (s : Scope) → IsReady params s → Longer (count.numbered_at_start a) s (start a s)
  start_longer tree.NoStart i s h = longer_itself s []
  start_longer (tree.StartLocal l) i s h = local_longer params l i s h
  start_longer (tree.StartSimple a) i s h =
      longer_more 0 (count.calls_in_simple a) _ (omega arith) (longer_behind params s 0 (simple a s) _ h (simple_reached (Vars params s) a i s h.fits) (λ b t k. longer_itself t (b ∷ [])))

  -- what a `for` does in its block
  abbrev turns : Around → ℕ → tree.Start → Option tree.Exp → Option tree.Simple → tree.Stmt → Judgement C.Statement
  turns c at init test step a =
      start init >>= λ ss. loop_test test >>= λ x. loop_step step >>= λ y. statement (inside_loop c) a >>= λ z. rule at (λ sc. loop_tested x (C.For (listed ss) x y z))

  valued : {B : Type 0} (e : tree.Exp) (n : ℕ) (f : C.Expr → Judgement B) (s : Scope) → IsExp e → IsReady params s → ((a : C.Expr) (t : Scope) → IsReady params t → Longer n t (f a t)) → Longer n s (then (value e s) f)
  valued e n f s i h k = longer_behind params s n (value e s) f h (value_reached (Vars params s) e i s h.fits) k

  ruled_then : {A B : Type 0} (at : ℕ) (s : Scope) (r : Ruling A) (n : ℕ) (f : A → Judgement B) → ((a : A) → Longer n s (f a s)) → Longer n s (then (ruled at s r) f)
  ruled_then at s (Ruled a) n f k = k a
  ruled_then at s (Refused kind) n f k = none

  hidden_ready : (s : Scope) → IsReady params s → IsReady params (hide_locals s)
  hidden_ready s h =
      let n = locals_hidden (Vars params s) s h.inside h.fits in
      record { fits = n.1; progress = h.progress; inside = ap has_block n.0.outer ∙ h.inside }

  -- the groups behind one, and then all
  abbrev groups_behind : Around → IntType → Labels → tree.Groups → Labels → List C.Statement → Judgement C.Groups
  groups_behind c i seen gs found ss s = then (groups c i seen gs s) (λ xs t. Good (C.group found.values found.has_default (listed ss) xs, t))

  mutual
    statement_longer : (c : Around) (a : tree.Stmt) → IsStmt a → (s : Scope) → IsReady params s → Longer (count.numbered_within a) s (statement c a s)
    statement_longer c (tree.Empty at) i s h = longer_itself s C.Empty
    statement_longer c (tree.Block at is) i s h =
        longer_more (count.numbered_among is + 0) (count.numbered_among is) _ (omega arith)
        (longer_then params (count.numbered_among is) 0 (in_block (items c is) s) _ (turn_in_block params s (items c is) h (λ t k. items_turn params c is i t k))
        (longer_in_block (count.numbered_among is) s (items c is) (items_longer c is i (opened s) (inner_ready params s h))) (λ ss t k. longer_itself t (C.Block (listed ss))))
    statement_longer c (tree.Simply a) i s h = longer_more 0 (count.calls_in_simple a) (simple a s) (omega arith) (longer_reached (simple a s) (simple_reached (Vars params s) a i s h.fits))
    statement_longer c (tree.Break at) i s h = longer_rule at s _
    statement_longer c (tree.Continue at) i s h = longer_rule at s _
    statement_longer c (tree.Return at r) i s h =
        longer_more 0 (count.where_some count.calls_on_right r) _ (omega arith) (longer_behind params s 0 (optional_right r s) _ h (optional_reached (Vars params s) r i s h.fits) (λ a t k. longer_rule at t _))
    statement_longer c (tree.If at e a) i s h =
        valued e (count.numbered_within a) _ s i.0 h (λ x t k.
        longer_more (count.numbered_within a + 0) (count.numbered_within a) _ (omega arith)
        (longer_then params (count.numbered_within a) 0 (statement c a t) _ (statement_turns params c a i.1 t k) (statement_longer c a i.1 t k) (λ y u m. longer_rule at u _)))
    statement_longer c (tree.IfElse at e a b) i s h =
        valued e (count.numbered_within a + count.numbered_within b) _ s i.0 h (λ x t k.
        longer_more (count.numbered_within a + (count.numbered_within b + 0)) (count.numbered_within a + count.numbered_within b) _ (omega arith)
        (longer_then params (count.numbered_within a) (count.numbered_within b + 0) (statement c a t) _ (statement_turns params c a i.1 t k) (statement_longer c a i.1 t k) (λ y u m.
        longer_then params (count.numbered_within b) 0 (statement c b u) _ (statement_turns params c b i.2 u m) (statement_longer c b i.2 u m) (λ z v n. longer_rule at v _))))
    statement_longer c (tree.While at e a) i s h =
        valued e (count.numbered_within a) _ s i.0 h (λ x t k.
        longer_more (count.numbered_within a + 0) (count.numbered_within a) _ (omega arith)
        (longer_then params (count.numbered_within a) 0 (statement (inside_loop c) a t) _ (statement_turns params (inside_loop c) a i.1 t k) (statement_longer (inside_loop c) a i.1 t k) (λ y u m. longer_rule at u _)))
    statement_longer c (tree.Do at a e) i s h =
        let p = record s { progress = next_do_while s.progress } in
        let q : IsReady params p = record { fits = h.fits; progress = h.progress; inside = h.inside } in
        longer_more (0 + (count.numbered_within a + 0)) (1 + count.numbered_within a) _ (omega arith)
        (longer_after {t = p} 0 (count.numbered_within a + 0) _ (omega arith)
        (longer_then params (count.numbered_within a) 0 (statement (inside_loop c) a p) _ (statement_turns params (inside_loop c) a i.0 p q) (statement_longer (inside_loop c) a i.0 p q) (λ y t k.
        valued e 0 _ t i.1 k (λ x u m. longer_rule at u _))))
    statement_longer c (tree.For at init test step a) i s h =
        let o = opened s in
        let j = inner_ready params s h in
        longer_in_block (count.numbered_at_start init + (count.where_some count.calls_in_simple step + count.numbered_within a)) s (turns c at init test step a)
        (longer_more (count.numbered_at_start init + (count.numbered_within a + 0)) (count.numbered_at_start init + (count.where_some count.calls_in_simple step + count.numbered_within a)) _ (omega arith)
        (longer_then params (count.numbered_at_start init) (count.numbered_within a + 0) (start init o) _ (start_turns params init i.0 o j) (start_longer init i.0 o j) (λ ss t k.
        longer_behind params t (count.numbered_within a + 0) (loop_test test t) _ k (test_reached (Vars params t) test i.1 t k.fits) (λ x u m.
        longer_behind params u (count.numbered_within a + 0) (loop_step step u) _ m (step_reached (Vars params u) step i.2 u m.fits) (λ y v n.
        longer_then params (count.numbered_within a) 0 (statement (inside_loop c) a v) _ (statement_turns params (inside_loop c) a i.3 v n) (statement_longer (inside_loop c) a i.3 v n) (λ z w q. longer_rule at w _))))))
    statement_longer c (tree.Switch at e gs) i s h =
        let p = record s { progress = next_switch s.progress } in
        let q : IsReady params p = record { fits = h.fits; progress = h.progress; inside = h.inside } in
        longer_more (0 + (count.numbered_in_groups gs + 0)) (1 + count.numbered_in_groups gs) _ (omega arith)
        (longer_after {t = p} 0 (count.numbered_in_groups gs + 0) _ (omega arith)
        (valued e (count.numbered_in_groups gs + 0) _ p i.0 q (λ x t k.
        longer_then params (count.numbered_in_groups gs) 0 (in_block (groups (inside_switch c) (switch_type (C.type_of x)) no_labels gs) t) _
        (turn_in_block params t (groups (inside_switch c) (switch_type (C.type_of x)) no_labels gs) k (λ o j. groups_turn params (inside_switch c) (switch_type (C.type_of x)) no_labels gs i.1 o j))
        (longer_in_block (count.numbered_in_groups gs) t (groups (inside_switch c) (switch_type (C.type_of x)) no_labels gs) (groups_longer (inside_switch c) (switch_type (C.type_of x)) no_labels gs i.1 (opened t) (inner_ready params t k)))
        (λ xs u m. longer_rule at u _))))

    pub items_longer : (c : Around) (is : tree.Items) → AreItems is → (s : Scope) → IsReady params s → Longer (count.numbered_among is) s (items c is s)
    items_longer c tree.NoItems i s h = longer_itself s []
    items_longer c (tree.LocalItem l is) i s h =
        longer_more (count.numbered_in_local l + (count.numbered_among is + 0)) (count.numbered_in_local l + count.numbered_among is) _ (omega arith)
        (longer_then params (count.numbered_in_local l) (count.numbered_among is + 0) (local l s) _ (local_turns params l i.0 s h) (local_longer params l i.0 s h) (λ ss t k.
        longer_then params (count.numbered_among is) 0 (items c is t) _ (items_turn params c is i.1 t k) (items_longer c is i.1 t k) (λ ts u m. longer_itself u (ss ++ ts))))
    items_longer c (tree.StatementItem a is) i s h =
        longer_more (count.numbered_within a + (count.numbered_among is + 0)) (count.numbered_within a + count.numbered_among is) _ (omega arith)
        (longer_then params (count.numbered_within a) (count.numbered_among is + 0) (statement c a s) _ (statement_turns params c a i.0 s h) (statement_longer c a i.0 s h) (λ x t k.
        longer_then params (count.numbered_among is) 0 (items c is t) _ (items_turn params c is i.1 t k) (items_longer c is i.1 t k) (λ ts u m. longer_itself u (x ∷ ts))))

    groups_longer : (c : Around) (i : IntType) (seen : Labels) (gs : tree.Groups) → AreGroups gs → (s : Scope) → IsReady params s → Longer (count.numbered_in_groups gs) s (groups c i seen gs s)
    groups_longer c i seen tree.NoGroups j s h = longer_itself s C.no_groups
    groups_longer c i seen (tree.MoreGroups l ls a is gs) j s h =
        let n = count.numbered_within a in
        let m = count.numbered_among is in
        let k = count.numbered_in_groups gs in
        longer_behind params s (n + (m + k)) (labels i seen (l ∷ ls) s) _ h (labels_reached (Vars params s) i seen (l ∷ ls) (j.0, j.1) s h.fits) (λ found t q.
        longer_more (n + (m + (0 + (k + 0)))) (n + (m + k)) _ (omega arith)
        (longer_then params n (m + (0 + (k + 0))) (statement c a t) _ (statement_turns params c a j.2 t q) (statement_longer c a j.2 t q) (λ x u r.
        longer_then params m (0 + (k + 0)) (items c is u) _ (items_turn params c is j.3 u r) (items_longer c is j.3 u r) (λ ts v o.
        ruled_then (label_at l) v (separate (is_last gs) (ends_by_jump (is_jump a) is) (x ∷ ts)) (0 + (k + 0)) _ (λ ss.
        longer_after 0 (k + 0) (groups_behind c i (both seen found) gs found ss (hide_locals v)) (omega arith)
        (longer_then params k 0 (groups c i (both seen found) gs (hide_locals v)) _ (groups_turn params c i (both seen found) gs j.4 (hide_locals v) (hidden_ready v o)) (groups_longer c i (both seen found) gs j.4 (hide_locals v) (hidden_ready v o)) (λ xs z b.
        longer_itself z (C.group found.values found.has_default (listed ss) xs))))))))
