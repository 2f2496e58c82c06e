-- Plans put together from plans, and what is lifted from what is lifted.
use Rattle.std.proofs.Common.{rules, arith, ℕ, ◌≤◌, ◌≡◌, Bool, ◌||◌, List, sym, subst, ap, ap₂, ◌∙◌}
use Rattle.c_values.specs.Name.{Name}
use Rattle.expression_lang.specs.declared.signatures.Binder as B
use Rattle.simpl_lang.specs.Command.{Simpl, Seq}
use Rattle.rule_local.specs.Assigned.{assigns}
use Rattle.local_lift.specs.Live.{live}
use Rattle.local_lift.specs.LiftedByLive.{among, carried}
use Rattle.local_lift.specs.CodeNames.{names}
use Rattle.local_lift.specs.CodePlan.{IsAssigned, AssignedBeside}
use Rattle.local_lift.specs.CodeRows.{marks, either_row, past_row}
use Rattle.simpl_lang.specs.declared.command.Simpl as S
use Rattle.simpl_lang.specs.declared.command.Simpl.{size-Simpl}
use Rattle.rule_local.proofs.UsesLaws.{either}
use Rattle.local_lift.specs.declared.plan.Fronts as F
use Rattle.local_lift.specs.declared.plan.Fronts.{size-Fronts}
use Rattle.local_lift.proofs.FirstLive.{past, first_live}
use Rattle.local_lift.proofs.RowLaws.{marks_same, marks_among, either_marks, past_marks}

-- what stands before what stands last before a last part
abbrev pub left : F.Fronts → F.Fronts
left F.None = F.None
left (F.Seq' p a row q fs) = fs
left (F.Guard' g p fs) = fs

left_smaller : (fs : F.Fronts) → size-Fronts (left fs) ≤ size-Fronts fs
left_smaller F.None = omega arith
left_smaller _ = search (rules, F.the_lemmas)

pub less_left : (n : ℕ) (fs others : F.Fronts) → others ≡ left fs → size-Fronts fs ≤ n → size-Fronts others ≤ n
less_left n fs others e h = let s = left_smaller fs in subst (λ x. size-Fronts x ≤ n) (sym e) (omega (arith, s, h))

seq_smaller : (p : _) (a : S.Simpl) (q : _) (b : S.Simpl) → size-Simpl b ≤ size-Simpl (S.Seq' p a q b)
seq_smaller p a q b = search (rules, S.the_lemmas)

pub less_last : (n : ℕ) (s b : S.Simpl) (p : _) (a : S.Simpl) (q : _) → s ≡ S.Seq' p a q b → size-Simpl s ≤ n → size-Simpl b ≤ n
less_last n s b p a q e h =
    let k = subst (λ x. size-Simpl b ≤ size-Simpl x) (sym e) (seq_smaller p a q b) in omega (arith, k, h)

-- what two parts assign
pub assigned_either : (bs : List B.Binder) (a b whole : Simpl) (row other all : List Bool) → ((y : Name) → assigns y whole ≡ (assigns y a || assigns y b)) → all ≡ either_row row other → IsAssigned bs a row → IsAssigned bs b other →
    IsAssigned bs whole all
assigned_either bs a b whole row other all w e h k =
    e ∙ ap₂ either_row h k ∙ either_marks (λ y. assigns y a) (λ y. assigns y b) bs ∙ marks_same (λ y. assigns y a || assigns y b) (λ y. assigns y whole) bs (λ y. sym (w y))

-- what is assigned beside a part, and by the part
pub assigned_whole : (bs : List B.Binder) (part whole : Simpl) (row other all : List Bool) → all ≡ either_row row other → AssignedBeside bs part whole row → IsAssigned bs part other → IsAssigned bs whole all
assigned_whole bs part whole row other all e h k =
    e ∙ ap₂ either_row h.marked k ∙ either_marks h.beside (λ y. assigns y part) bs ∙ marks_same (λ y. h.beside y || assigns y part) (λ y. assigns y whole) bs h.all

pub beside_first : (bs : List B.Binder) (a b whole : Simpl) (row other all : List Bool) → all ≡ either_row row other → AssignedBeside bs (Seq a b) whole row → IsAssigned bs a other → AssignedBeside bs b whole all
beside_first bs a b whole row other all e h k = record {
  beside = λ y. h.beside y || assigns y a;
  marked = e ∙ ap₂ either_row h.marked k ∙ either_marks h.beside (λ y. assigns y a) bs;
  all = λ y. either (h.beside y) (assigns y a) (assigns y b) ∙ h.all y;
}

-- the row before the first part of a sequence, where this is the row after it
pub first_row : (bs : List B.Binder) (a b : Simpl) (vs us : List Name) (before after row all : List Bool) → us ≡ carried (names bs) a (live (names bs) b (among vs)) → all ≡ past_row before after row →
    before ≡ marks (live (names bs) a (among us)) bs → after ≡ marks (live (names bs) b (among vs)) bs → IsAssigned bs a row → all ≡ marks (live (names bs) (Seq a b) (among vs)) bs
first_row bs a b vs us before after row all u e h k n =
    let xs = names bs in
    let p = live xs b (among vs) in
    e ∙ ap (λ fs. past_row fs after row) (h ∙ ap (λ ws. marks (live xs a (among ws)) bs) u) ∙ ap₂ (λ fs gs. past_row (marks (live xs a (among (carried xs a p))) bs) fs gs) k n
    ∙ past_marks (live xs a (among (carried xs a p))) p (λ y. assigns y a) bs
    ∙ marks_among (past (live xs a (among (carried xs a p))) p (λ y. assigns y a)) (live xs (Seq a b) (among vs)) bs (λ y m. sym (first_live xs a p y m))
