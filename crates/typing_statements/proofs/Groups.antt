-- One group more behind others, and the labels of a group.
use Rattle.std.proofs.Common.{◌≡◌, List, [], ◌∷◌, ◌++◌, refl, sym, ap, ◌∙◌}
use Rattle.c_values.specs.Types.{IntType}
use Rattle.c_grammar.specs.Tree as tree
use Rattle.typing_rules.specs.declared.fault.TypeFault.{TypeFault}
use Rattle.typing_rules.specs.declared.fault.TypeFault.TheVariants.{Bad as BadNode, Memory}
use Rattle.typing_rules.specs.CodeAnswers.{IsFaultOf}
use Rattle.typing_rules.specs.Checked.{Checked, Good, Bad, Judgement, pure, ruled, then, ◌>>=◌}
use Rattle.typing_rules.specs.Scope.{Scope, hide_locals}
use Rattle.typing_rules.specs.Statements.{Around, Labels, no_labels, both, labels, label_at, statement, items, groups, separate, is_last, ends_by_jump, is_jump, listed}
use Rattle.c_lang.specs.Typed as C
use Rattle.c_lang.specs.CodeTyped.{statements_of}
use Rattle.typing_statements.specs.declared.switches.Group as G
use Rattle.typing_statements.specs.CodeLabels.{joined, labels_of}
use Rattle.typing_statements.specs.CodeStatements.{in_front, in_groups}
use Rattle.typing_statements.proofs.Lists.{in_front_behind}
use Rattle.typing_expressions.proofs.Steps.{fault_along}

-- the labels that were found
pub labels_found : (seen : Labels) (j : Judgement Labels) (s t : Scope) (all found : Labels) → joined seen no_labels j s ≡ Good ((all, found), t) → (j s ≡ Good (found, t)) × (all ≡ both seen found)
labels_found seen j s t all found = by_cases (j s)
  where
    by_cases : (c : Checked (Labels × Scope)) → then {B = Labels × Labels} c (λ ls u. Good ((both seen ls, both no_labels ls), u)) ≡ Good ((all, found), t) → (c ≡ Good (found, t)) × (all ≡ both seen found)
    by_cases (Good p) h =
        let e : ((both seen p.0, both no_labels p.0), p.1) ≡ ((all, found), t) = cc in
        let same : p.0 ≡ found = ap (λ (q : (Labels × Labels) × Scope). q.0.1) e in (
          ap (λ (q : (Labels × Labels) × Scope). Good (q.0.1, q.1)) e,
          sym (ap (λ (q : (Labels × Labels) × Scope). q.0.0) e) ∙ ap (both seen) same,
        )
    by_cases (Bad at kind) h = absurd cc

pub fault_joined : (e : TypeFault) (seen found : Labels) (j : Judgement Labels) (s : Scope) → IsFaultOf e (joined seen found j s) → IsFaultOf e (j s)
fault_joined (BadNode at kind) seen found j s = by_cases (j s)
  where
    by_cases : (c : Checked (Labels × Scope)) → then {B = Labels × Labels} c (λ ls u. Good ((both seen ls, both found ls), u)) ≡ Bad at kind → c ≡ Bad at kind
    by_cases (Good p) h = cc
    by_cases (Bad k kind') h = cc
fault_joined Memory seen found j s = λ h. tt

-- a group behind its labels: its statements, the rule of its end, and the groups behind it
module _ (c : Around) (i : IntType) (seen : Labels) (l : tree.Label) (s : tree.Stmt) (is : tree.Items) (gs : tree.Groups) where
  abbrev ended : List C.Statement → Scope → Checked (List C.Statement × Scope)
  ended ss u = ruled (label_at l) u (separate (is_last gs) (ends_by_jump (is_jump s) is) ss)

  abbrev behind_group : Labels → C.Statements → Judgement C.Groups
  behind_group found list u = then (groups c i (both seen found) gs (hide_locals u)) (λ xs. pure (C.group found.values found.has_default list xs))

  abbrev at_end : Labels → List C.Statement → Judgement C.Groups
  at_end found ss u = then (ended ss u) (λ ss'. behind_group found (listed ss'))

  abbrev pub behind_labels : Labels → Judgement C.Groups
  behind_labels found = statement c s >>= λ x. items c is >>= λ ts. at_end found (x ∷ ts)

  abbrev pub group_listed : Judgement C.Statements
  group_listed = statement c s >>= λ x. items c is >>= λ ts. pure (listed (x ∷ ts))

  module _ (found : Labels) where
    statements_known : (d : Scope) (list : C.Statements) → ((ss : List C.Statement) → ended ss d ≡ Good (ss, d)) → (b : Scope) → group_listed b ≡ Good (list, d) → behind_labels found b ≡ behind_group found list d
    statements_known d list ends b = by_statement (statement c s b)
      where
        by_end : (ss : List C.Statement) (u : Scope) → ◌≡◌ {A = Checked (C.Statements × Scope)} (Good (listed ss, u)) (Good (list, d)) → at_end found ss u ≡ behind_group found list d
        by_end ss u h =
            let e : (listed ss, u) ≡ (list, d) = cc in
            ap (at_end found ss) (ap (λ (q : C.Statements × Scope). q.1) e)
            ∙ ap (λ k. then k (λ ss'. behind_group found (listed ss'))) (ends ss)
            ∙ ap (λ z. behind_group found z d) (ap (λ (q : C.Statements × Scope). q.0) e)

        by_items : (x : C.Statement) (k : Checked (List C.Statement × Scope)) → then k (λ ts. pure (listed (x ∷ ts))) ≡ Good (list, d) → then k (λ ts. at_end found (x ∷ ts)) ≡ behind_group found list d
        by_items x (Good p) h = by_end (x ∷ p.0) p.1 h
        by_items x (Bad at kind) h = absurd cc

        by_statement : (k : Checked (C.Statement × Scope)) → then k (λ x. items c is >>= λ ts. pure (listed (x ∷ ts))) ≡ Good (list, d) → then k (λ x. items c is >>= λ ts. at_end found (x ∷ ts)) ≡ behind_group found list d
        by_statement (Good p) h = by_items p.0 (items c is p.1) h
        by_statement (Bad at kind) h = absurd cc

    -- a fault among the statements
    fault_listed : (e : TypeFault) (b : Scope) → IsFaultOf e (group_listed b) → IsFaultOf e (behind_labels found b)
    fault_listed (BadNode at kind) b = by_statement (statement c s b)
      where
        by_items : (x : C.Statement) (k : Checked (List C.Statement × Scope)) → then k (λ ts. pure (listed (x ∷ ts))) ≡ Bad at kind → then k (λ ts. at_end found (x ∷ ts)) ≡ Bad at kind
        by_items x (Good p) h = absurd cc
        by_items x (Bad at' kind') h = cc

        by_statement : (k : Checked (C.Statement × Scope)) → then k (λ x. items c is >>= λ ts. pure (listed (x ∷ ts))) ≡ Bad at kind → then k (λ x. items c is >>= λ ts. at_end found (x ∷ ts)) ≡ Bad at kind
        by_statement (Good p) h = by_items p.0 (items c is p.1) h
        by_statement (Bad at' kind') h = cc
    fault_listed Memory b = λ h. tt

    -- a fault at the end
    fault_ended : (e : TypeFault) (d : Scope) (list : C.Statements) → ((ss : List C.Statement) → IsFaultOf e (ended ss d)) → (b : Scope) → group_listed b ≡ Good (list, d) → IsFaultOf e (behind_labels found b)
    fault_ended (BadNode at kind) d list ends b = by_statement (statement c s b)
      where
        by_end : (ss : List C.Statement) (u : Scope) → ◌≡◌ {A = Checked (C.Statements × Scope)} (Good (listed ss, u)) (Good (list, d)) → at_end found ss u ≡ Bad at kind
        by_end ss u h =
            let e : (listed ss, u) ≡ (list, d) = cc in
            ap (at_end found ss) (ap (λ (q : C.Statements × Scope). q.1) e) ∙ ap (λ k. then k (λ ss'. behind_group found (listed ss'))) (ends ss)

        by_items : (x : C.Statement) (k : Checked (List C.Statement × Scope)) → then k (λ ts. pure (listed (x ∷ ts))) ≡ Good (list, d) → then k (λ ts. at_end found (x ∷ ts)) ≡ Bad at kind
        by_items x (Good p) h = by_end (x ∷ p.0) p.1 h
        by_items x (Bad at' kind') h = absurd cc

        by_statement : (k : Checked (C.Statement × Scope)) → then k (λ x. items c is >>= λ ts. pure (listed (x ∷ ts))) ≡ Good (list, d) → then k (λ x. items c is >>= λ ts. at_end found (x ∷ ts)) ≡ Bad at kind
        by_statement (Good p) h = by_items p.0 (items c is p.1) h
        by_statement (Bad at' kind') h = absurd cc
    fault_ended Memory d list ends b = λ h. tt

  -- what was found of the groups before, with this one and those behind it
  module _ (typed : List G.Group) (a b : Scope) (found : Labels) (ls : List tree.Label) (labelled : labels i seen (l ∷ ls) a ≡ Good (found, b)) where
    entered : in_groups typed (groups c i seen (tree.MoreGroups l ls s is gs)) a ≡ then (behind_labels found b) (λ xs u. Good (in_front typed xs, u))
    entered = ap (λ k. then (then k behind_labels) (λ xs u. Good (in_front typed xs, u))) labelled

    fault_entered : (e : TypeFault) → IsFaultOf e (behind_labels found b) → IsFaultOf e (in_groups typed (groups c i seen (tree.MoreGroups l ls s is gs)) a)
    fault_entered (BadNode at kind) h = entered ∙ ap (λ k. then k (λ xs u. Good (in_front typed xs, u))) h
    fault_entered Memory h = tt

    pub group_behind : (g : G.Group) (d : Scope) (all : Labels) → all ≡ both seen found → labels_of g.labels ≡ found → group_listed b ≡ Good (statements_of g.statements, d) → ((ss : List C.Statement) → ended ss d ≡ Good (ss, d)) →
        in_groups typed (groups c i seen (tree.MoreGroups l ls s is gs)) a ≡ in_groups (typed ++ (g ∷ [])) (groups c i all gs) (hide_locals d)
    group_behind g d all alls same listed' ends =
        entered
        ∙ ap (λ k. then k (λ xs u. Good (in_front typed xs, u))) (statements_known found d (statements_of g.statements) ends b listed')
        ∙ ap (λ z. then (behind_group z (statements_of g.statements) d) (λ xs u. Good (in_front typed xs, u))) (sym same)
        ∙ by_cases (groups c i (both seen (labels_of g.labels)) gs (hide_locals d))
        ∙ ap (λ z. in_groups (typed ++ (g ∷ [])) (groups c i z gs) (hide_locals d)) (ap (both seen) same ∙ sym alls)
      where
        by_cases : (k : Checked (C.Groups × Scope)) → then (then k (λ xs. pure (C.group g.labels.values.items g.labels.has_default (statements_of g.statements) xs))) (λ xs u. Good (in_front typed xs, u)) ≡ then k (λ xs u. Good (in_front (typed ++ (g ∷ [])) xs, u))
        by_cases (Good p) = ap (λ z. Good (z, p.1)) (sym (in_front_behind typed g p.0))
        by_cases (Bad at kind) = refl

    pub group_fault_listed : (e : TypeFault) → IsFaultOf e (group_listed b) → IsFaultOf e (in_groups typed (groups c i seen (tree.MoreGroups l ls s is gs)) a)
    group_fault_listed e h = fault_entered e (fault_listed found e b h)

    pub group_fault_ended : (e : TypeFault) (d : Scope) (list : C.Statements) → group_listed b ≡ Good (list, d) → ((ss : List C.Statement) → IsFaultOf e (ended ss d)) → IsFaultOf e (in_groups typed (groups c i seen (tree.MoreGroups l ls s is gs)) a)
    group_fault_ended e d list h ends = fault_entered e (fault_ended found e d list ends b h)

pub group_fault_labels : (c : Around) (i : IntType) (seen : Labels) (l : tree.Label) (ls : List tree.Label) (s : tree.Stmt) (is : tree.Items) (gs : tree.Groups) (typed : List G.Group) (a : Scope) (e : TypeFault) →
    IsFaultOf e (labels i seen (l ∷ ls) a) → IsFaultOf e (in_groups typed (groups c i seen (tree.MoreGroups l ls s is gs)) a)
group_fault_labels c i seen l ls s is gs typed a (BadNode at kind) h = ap (λ k. then (then k (behind_labels c i seen l s is gs)) (λ xs u. Good (in_front typed xs, u))) h
group_fault_labels c i seen l ls s is gs typed a Memory h = tt

-- groups that are judged behind others, by the labels, the statements and the end of the next one
module _ (whole : Checked (C.Groups × Scope)) (c : Around) (i : IntType) (seen : Labels) (l : tree.Label) (ls : List tree.Label) (s : tree.Stmt) (is : tree.Items) (gs r : tree.Groups) (typed : List G.Group) (a : Scope) (so_far : whole ≡ in_groups typed (groups c i seen r) a) (next : r ≡ tree.MoreGroups l ls s is gs) where
  so_far_more : whole ≡ in_groups typed (groups c i seen (tree.MoreGroups l ls s is gs)) a
  so_far_more = so_far ∙ ap (λ x. in_groups typed (groups c i seen x) a) next

  pub labels_fault : (e : TypeFault) → IsFaultOf e (joined seen no_labels (labels i seen (l ∷ ls)) a) → IsFaultOf e whole
  labels_fault e h = fault_along e whole (in_groups typed (groups c i seen (tree.MoreGroups l ls s is gs)) a) so_far_more (group_fault_labels c i seen l ls s is gs typed a e (fault_joined e seen no_labels (labels i seen (l ∷ ls)) a h))

  module _ (b : Scope) (all found : Labels) (labelled : joined seen no_labels (labels i seen (l ∷ ls)) a ≡ Good ((all, found), b)) where
    pub statements_fault : (e : TypeFault) → IsFaultOf e (group_listed c i seen l s is gs b) → IsFaultOf e whole
    statements_fault e h =
        fault_along e whole (in_groups typed (groups c i seen (tree.MoreGroups l ls s is gs)) a) so_far_more
        (group_fault_listed c i seen l s is gs typed a b found ls (labels_found seen (labels i seen (l ∷ ls)) a b all found labelled).0 e h)

    pub end_fault : (e : TypeFault) (d : Scope) (list : C.Statements) → group_listed c i seen l s is gs b ≡ Good (list, d) → ((ss : List C.Statement) → IsFaultOf e (ended c i seen l s is gs ss d)) → IsFaultOf e whole
    end_fault e d list h ends =
        fault_along e whole (in_groups typed (groups c i seen (tree.MoreGroups l ls s is gs)) a) so_far_more
        (group_fault_ended c i seen l s is gs typed a b found ls (labels_found seen (labels i seen (l ∷ ls)) a b all found labelled).0 e d list h ends)

    pub one_group_more : (g : G.Group) (d t : Scope) → labels_of g.labels ≡ found → group_listed c i seen l s is gs b ≡ Good (statements_of g.statements, d) → ((ss : List C.Statement) → ended c i seen l s is gs ss d ≡ Good (ss, d)) → t ≡ hide_locals d →
        whole ≡ in_groups (typed ++ (g ∷ [])) (groups c i all gs) t
    one_group_more g d t same h ends hides =
        let known = labels_found seen (labels i seen (l ∷ ls)) a b all found labelled in
        so_far_more
        ∙ group_behind c i seen l s is gs typed a b found ls known.0 g d all known.1 same h ends
        ∙ ap (in_groups (typed ++ (g ∷ [])) (groups c i all gs)) (sym hides)
