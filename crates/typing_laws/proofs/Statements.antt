-- Statements of a body.
use Rattle.std.proofs.Common.{suc, List, [], ◌∷◌, ◌++◌, Option, Some, None, refl, ap, ◌∙◌}
use Rattle.c_values.specs.Types.{IntType}
use Rattle.c_lang.specs.Typed as C
use Rattle.c_lang.specs.WellTyped.{nowhere, in_a_loop}
use Rattle.c_lang.specs.WellTyped as W
use Rattle.c_grammar.specs.Tree as tree
use Rattle.typing_rules.specs.Scope.{Scope, hide_locals}
use Rattle.typing_rules.specs.Checked.{Good, rule, in_block}
use Rattle.typing_rules.specs.Expressions.{value}
use Rattle.typing_rules.specs.Calls.{right}
use Rattle.typing_rules.specs.Simple.{simple}
use Rattle.typing_rules.specs.Locals.{local}
use Rattle.typing_rules.specs.Progress.{next_switch, next_do_while}
use Rattle.typing_rules.specs.Statements.{Around, inside_loop, inside_switch, returns, switch_type, Labels, no_labels, both, labels, label_at, is_jump, ends_by_jump, is_last, separate, listed, start, loop_test, loop_step, optional_right, switch_number, do_while_number, statement, items, groups}
use Rattle.typing_laws.specs.Written.{Where, IsExp, IsRhs, IsSimple, IsStart, IsStmt, AreItems, AreGroups}
use Rattle.typing_laws.proofs.Tests as tests
use Rattle.typing_laws.proofs.Rulings.{rules_weaker}
use Rattle.typing_laws.proofs.Operators.{IsTyped}
use Rattle.typing_laws.proofs.Scopes.{Variables, has_block}
use Rattle.typing_laws.proofs.Growth.{grown_itself}
use Rattle.typing_laws.proofs.Later.{IsWithin, within_before}
use Rattle.typing_laws.proofs.Steps.{Judges, Anything, reach_then, reach_pure}
use Rattle.typing_laws.proofs.Operands.{value_reached}
use Rattle.typing_laws.proofs.Calls.{IsPlain, right_reached}
use Rattle.typing_laws.proofs.Simple.{simple_reached}
use Rattle.typing_laws.proofs.Locals.{ArePlain, local_turns}
use Rattle.typing_laws.proofs.Labels.{labels_reached}
use Rattle.typing_laws.proofs.StatementRules.{in_loop, IsSt, AreSt, plain_st, st_append, listed_st, listed_plain, tested_st, IsTest, loop_tested_st, breaks_st, continues_st, IsOptional, returns_typed}
use Rattle.typing_laws.proofs.Switches.{IsGroups, no_groups_typed, group_typed, separate_typed, switches_typed}
use Rattle.typing_laws.proofs.Bodies.{Vars, IsReady, Turns, good, Runs, whole_before, turn_then, turn_pure, turn_rule, turn_of, turn_weaker, turn_in_block}
use Rattle.typing_laws.proofs.Inner.{locals_hidden}

module _ (V : Variables) where
  pub optional_reached : (r : Option tree.Rhs) → Where IsRhs r → Judges V IsOptional (optional_right r)
  optional_reached None i s h = reach_pure s None h (λ g w. tt)
  optional_reached (Some r) i s h = reach_then (right r s) _ (right_reached V r i s h) (λ a t k. reach_pure t (Some a) k.fits (λ g w. k.typed g w))

  pub test_reached : (e : Option tree.Exp) → Where IsExp e → Judges V IsTest (loop_test e)
  test_reached None i s h = reach_pure s C.Always h (λ g w. tt)
  test_reached (Some e) i s h = reach_then (value e s) _ (value_reached V e i s h) (λ a t k. reach_pure t (C.Tested a) k.fits (λ g w. k.typed g w))

  pub step_reached : (a : Option tree.Simple) → Where IsSimple a → Judges V IsPlain (loop_step a)
  step_reached None i s h = reach_pure s C.Empty h (λ g w r. refl)
  step_reached (Some a) i s h = simple_reached V a i s h

module _ (params : List C.Variable) where
  pub start_turns : (a : tree.Start) → IsStart a → Runs params ArePlain (start a)
  start_turns tree.NoStart i s h = turn_pure params s [] h (λ g w. tt)
  start_turns (tree.StartLocal l) i s h = local_turns params l i s h
  start_turns (tree.StartSimple a) i s h =
      turn_then params (simple a s) _ (turn_of params s (simple a s) h (simple_reached (Vars params s) a i s h.fits)) (λ b t k.
      turn_pure params t (b ∷ []) k.ready (λ g w. (k.typed g w, tt)))

  switch_numbered : (s : Scope) → IsReady params s → Turns params Anything s (switch_number s)
  switch_numbered s h = good (suc s.progress.switches, record s { progress = next_switch s.progress }) (record {
    later = record { layout = grown_itself s.layout; outer = refl; some = λ b. b; names = λ x e b. b; here = λ x b. b; with_body = refl; so_far = λ x b. b };
    more = λ x u v. v;
    ready = record { fits = h.fits; progress = h.progress; inside = h.inside };
    typed = λ g w. tt;
  })

  do_while_numbered : (s : Scope) → IsReady params s → Turns params Anything s (do_while_number s)
  do_while_numbered s h = good (suc s.progress.do_whiles, record s { progress = next_do_while s.progress }) (record {
    later = record { layout = grown_itself s.layout; outer = refl; some = λ b. b; names = λ x e b. b; here = λ x b. b; with_body = refl; so_far = λ x b. b };
    more = λ x u v. v;
    ready = record { fits = h.fits; progress = h.progress; inside = h.inside };
    typed = λ g w. tt;
  })

  group_hidden : (c : Around) (s : Scope) (ss : List C.Statement) → IsReady params s → ((g : W.Scope) → IsWithin (Vars params s) s g → AreSt c g ss) → Turns params (AreSt c) s (Good (ss, hide_locals s))
  group_hidden c s ss h k =
      let n = locals_hidden (Vars params s) s h.inside h.fits in
      good (ss, hide_locals s) (record {
        later = n.0;
        more = λ x u v. v;
        ready = record { fits = n.1; progress = h.progress; inside = ap has_block n.0.outer ∙ h.inside };
        typed = λ g w. k g (within_before n.0 w);
      })

  -- the value of an expression in a body
  valued : (e : tree.Exp) (s : Scope) → IsExp e → IsReady params s → Turns params IsTyped s (value e s)
  valued e s i h = turn_of params s (value e s) h (value_reached (Vars params s) e i s h.fits)

  mutual
    pub statement_turns : (c : Around) (a : tree.Stmt) → IsStmt a → Runs params (IsSt c) (statement c a)
    statement_turns c (tree.Empty at) i s h = turn_pure params s C.Empty h (λ g w e r m. refl)
    statement_turns c (tree.Block at is) i s h =
        turn_then params (in_block (items c is) s) _ (turn_in_block params s (items c is) h (λ t k. items_turn c is i t k)) (λ ss t k.
        turn_pure params t (C.Block (listed ss)) k.ready (λ g w e r m. listed_st c g ss (k.typed g w) e r m))
    statement_turns c (tree.Simply a) i s h =
        turn_weaker params (simple a s) (turn_of params s (simple a s) h (simple_reached (Vars params s) a i s h.fits)) (λ g b p e r m. p r)
    statement_turns c (tree.Break at) i s h = turn_rule params at s _ h (λ g w. breaks_st c g)
    statement_turns c (tree.Continue at) i s h = turn_rule params at s _ h (λ g w. continues_st c g)
    statement_turns c (tree.Return at r) i s h =
        turn_then params (optional_right r s) _ (turn_of params s (optional_right r s) h (optional_reached (Vars params s) r i s h.fits)) (λ a t k.
        turn_rule params at t _ k.ready (λ g w. rules_weaker (returns t.layout c.result a) (returns_typed g t.layout c.result a (k.typed g w)) (λ b q e r' m. q e r')))
    statement_turns c (tree.If at e a) i s h =
        turn_then params (value e s) _ (valued e s i.0 h) (λ x t k.
        turn_then params (statement c a t) _ (statement_turns c a i.1 t k.ready) (λ y u m.
        turn_rule params at u _ m.ready (λ g w. tested_st c g x (C.If x y C.Empty) (λ q e' r n. tests.both (tests.both q (m.typed g w e' r n)) refl) (k.typed g (whole_before params m w)))))
    statement_turns c (tree.IfElse at e a b) i s h =
        turn_then params (value e s) _ (valued e s i.0 h) (λ x t k.
        turn_then params (statement c a t) _ (statement_turns c a i.1 t k.ready) (λ y u m.
        turn_then params (statement c b u) _ (statement_turns c b i.2 u m.ready) (λ z v n.
        turn_rule params at v _ n.ready (λ g w. tested_st c g x (C.If x y z) (λ q e' r o. tests.both (tests.both q (m.typed g (whole_before params n w) e' r o)) (n.typed g w e' r o))
        (k.typed g (whole_before params m (whole_before params n w)))))))
    statement_turns c (tree.While at e a) i s h =
        turn_then params (value e s) _ (valued e s i.0 h) (λ x t k.
        turn_then params (statement (inside_loop c) a t) _ (statement_turns (inside_loop c) a i.1 t k.ready) (λ y u m.
        turn_rule params at u _ m.ready (λ g w. tested_st c g x (C.While x y) (λ q e' r n. tests.both q (m.typed g w e' in_a_loop (in_loop c))) (k.typed g (whole_before params m w)))))
    statement_turns c (tree.Do at a e) i s h =
        turn_then params (do_while_number s) _ (do_while_numbered s h) (λ n p q.
        turn_then params (statement (inside_loop c) a p) _ (statement_turns (inside_loop c) a i.0 p q.ready) (λ y t k.
        turn_then params (value e t) _ (valued e t i.1 k.ready) (λ x u m.
        turn_rule params at u _ m.ready (λ g w. tested_st c g x (C.DoWhile n y x) (λ o e' r l. tests.both (k.typed g (whole_before params m w) e' in_a_loop (in_loop c)) o) (m.typed g w)))))
    statement_turns c (tree.For at init test step a) i s h =
        turn_in_block params s _ h (λ o j.
        turn_then params (start init o) _ (start_turns init i.0 o j) (λ ss t k.
        turn_then params (loop_test test t) _ (turn_of params t (loop_test test t) k.ready (test_reached (Vars params t) test i.1 t k.ready.fits)) (λ x u m.
        turn_then params (loop_step step u) _ (turn_of params u (loop_step step u) m.ready (step_reached (Vars params u) step i.2 u m.ready.fits)) (λ y v n.
        turn_then params (statement (inside_loop c) a v) _ (statement_turns (inside_loop c) a i.3 v n.ready) (λ z z' q.
        turn_rule params at z' _ q.ready (λ g w.
        loop_tested_st c g x (C.For (listed ss) x y z)
        (λ b e' r l. tests.both (tests.both (tests.both
        (listed_plain g ss (k.typed g (whole_before params m (whole_before params n (whole_before params q w)))) nowhere) b)
        (n.typed g (whole_before params q w) nowhere)) (q.typed g w e' in_a_loop (in_loop c)))
        (m.typed g (whole_before params n (whole_before params q w)))))))))
    statement_turns c (tree.Switch at e gs) i s h =
        turn_then params (switch_number s) _ (switch_numbered s h) (λ n p q.
        turn_then params (value e p) _ (valued e p i.0 q.ready) (λ x t k.
        turn_then params (in_block (groups (inside_switch c) (switch_type (C.type_of x)) no_labels gs) t) _
        (turn_in_block params t (groups (inside_switch c) (switch_type (C.type_of x)) no_labels gs) k.ready (λ o j. groups_turn (inside_switch c) (switch_type (C.type_of x)) no_labels gs i.1 o j)) (λ xs u m.
        turn_rule params at u _ m.ready (λ g w. switches_typed c g n x (C.type_of x) xs refl (k.typed g (whole_before params m w)) (m.typed g w)))))

    pub items_turn : (c : Around) (is : tree.Items) → AreItems is → Runs params (AreSt c) (items c is)
    items_turn c tree.NoItems i s h = turn_pure params s [] h (λ g w. tt)
    items_turn c (tree.LocalItem l is) i s h =
        turn_then params (local l s) _ (local_turns params l i.0 s h) (λ ss t k.
        turn_then params (items c is t) _ (items_turn c is i.1 t k.ready) (λ ts u m.
        turn_pure params u (ss ++ ts) m.ready (λ g w. st_append c g ss ts (plain_st c g ss (k.typed g (whole_before params m w))) (m.typed g w))))
    items_turn c (tree.StatementItem a is) i s h =
        turn_then params (statement c a s) _ (statement_turns c a i.0 s h) (λ x t k.
        turn_then params (items c is t) _ (items_turn c is i.1 t k.ready) (λ ts u m.
        turn_pure params u (x ∷ ts) m.ready (λ g w. (k.typed g (whole_before params m w), m.typed g w))))

    pub groups_turn : (c : Around) (i : IntType) (seen : Labels) (gs : tree.Groups) → AreGroups gs → Runs params (IsGroups c i seen) (groups c i seen gs)
    groups_turn c i seen tree.NoGroups j s h = turn_pure params s C.no_groups h (λ g w. no_groups_typed c i seen g)
    groups_turn c i seen (tree.MoreGroups l ls a is gs) j s h =
        turn_then params (labels i seen (l ∷ ls) s) _ (turn_of params s (labels i seen (l ∷ ls) s) h (labels_reached (Vars params s) i seen (l ∷ ls) (j.0, j.1) s h.fits)) (λ found t k.
        turn_then params (statement c a t) _ (statement_turns c a j.2 t k.ready) (λ x u m.
        turn_then params (items c is u) _ (items_turn c is j.3 u m.ready) (λ ts v n.
        turn_then params (rule (label_at l) (λ sc. separate (is_last gs) (ends_by_jump (is_jump a) is) (x ∷ ts)) v) _
        (turn_rule params (label_at l) v _ n.ready (λ g w. separate_typed c g (is_last gs) (ends_by_jump (is_jump a) is) (x ∷ ts) (m.typed g (whole_before params n w), n.typed g w))) (λ ss o p.
        turn_then params (Good (ss, hide_locals o)) _ (group_hidden c o ss p.ready p.typed) (λ ss' q y.
        turn_then params (groups c i (both seen found) gs q) _ (groups_turn c i (both seen found) gs j.4 q y.ready) (λ xs z b.
        turn_pure params z (C.group found.values found.has_default (listed ss') xs) b.ready (λ g w.
        group_typed c i seen found g ss' xs
        (k.typed g (whole_before params m (whole_before params n (whole_before params p (whole_before params y (whole_before params b w))))))
        (y.typed g (whole_before params b w)) (b.typed g w))))))))
