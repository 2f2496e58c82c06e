-- A switch: the group of the label in C is the one whose test holds, and the default's comes last, without a test.
use Rattle.std.proofs.Common.{◌≡◌, ℕ, Bool, true, false, List, Option, ℤ, refl, sym, subst, ap, ◌∙◌}
use Rattle.std.specs.Prelude.{not, ◌||◌}
use Rattle.std.proofs.lemmas.Bool.{false≢true, or_parts, not-true, and_parts}
use Rattle.correspondence.specs.Outcome.{Ends, done, Then, choose}
use Rattle.correspondence.specs.Corresponds.{Corresponds, Paired}
use Rattle.correspondence.proofs.Corresponds.{done_corresponds, then_corresponds, choose_corresponds}
use Rattle.c_values.specs.Types.{IntType, Integer, width_of, same_type}
use Rattle.c_values.specs.Value as V
use Rattle.c_values.specs.Path.{IsBits, HasShape}
use Rattle.c_values.specs.Layout.{shape_of}
use Rattle.c_values.specs.CodeSameType.{type_is}
use Rattle.c_values.specs.Choice.{Choice}
use Rattle.expression_lang.specs.Sort.{Level}
use Rattle.expression_lang.specs.Signature.{Binder}
use Rattle.expression_lang.specs.GuardKind.{GuardKind}
use Rattle.simpl_lang.specs.Command.{Simpl, Set, Seq, Catch}
use Rattle.simpl_lang.specs.Exec as X
use Rattle.expression_lang.specs.Machine.{Machine, with_local}
use Rattle.simpl_lang.specs.Exec.{Normal, Abrupt, Runs, execs, holds_on, value_on}
use Rattle.c_lang.specs.Typed as C
use Rattle.c_lang.specs.Labels.{is_label, has_label}
use Rattle.c_lang.specs.WellTyped.{Scope, Around, is_typed, is_typed_at, in_a_switch, all_labels, are_values, are_different, has_default, has_one_default}
use Rattle.c_meaning.specs.CValue.{number_at, value}
use Rattle.c_meaning.specs.CRun as R
use Rattle.c_meaning.specs.CRun.{Next, Broken, Continued, Returning, Ended, switched, statements, groups, evaluated, context}
use Rattle.generation.specs.Guards.{guards, exp}
use Rattle.generation.specs.Generate.{guarded, returned, broken, continued, stops_at, cases, cases_of, default_of, commands, is_one_of, switch_local}
use Rattle.correspondence.proofs.Steps.{same_on_right, after_done}
use Rattle.generation.proofs.ExactGuards.{SameKind, evaluated_guarded}
use Rattle.generation.proofs.ExactTruth.{scalar_bits}
use Rattle.generation.proofs.ExactMachines.{Alike, setting, alike_added}
use Rattle.generation.proofs.ExactEnds.{IsEnd, SameCalls, Stands, stops_here, thrown_on}
use Rattle.generation.proofs.ExactStores.{IsValueOn, value_same}
use Rattle.generation.proofs.ExactCalls.{found_there}
use Rattle.generation.proofs.ExactLoops.{SameRuns}
use Rattle.generation.proofs.ExactLabels.{labels_tested, values_apart, label_in_groups, different_apart}

-- break ends a switch
module _ (g : Scope) (p : Choice) (locals : List Binder) (r : Around) (depth : Option ℕ) (fs : List Runs) where
  switch_caught : (f : R.Flow) (f' : X.Flow) → IsEnd g (in_a_switch r) f f' → Corresponds (IsEnd g r) SameKind (switched f) (X.handled (λ n. execs g.layout p locals (stops_at broken) depth fs n) f')
  switch_caught (Next m) (Normal n) h = done_corresponds (IsEnd g r) SameKind (Next m) (Normal n) h
  switch_caught (Broken m) (Abrupt n) h = stops_here (IsEnd g r) g.layout p locals depth fs n (done (Next m)) broken broken h.2 refl (done_corresponds (IsEnd g r) SameKind (Next m) (Normal n) h.1)
  switch_caught (Continued m) (Abrupt n) h = thrown_on (IsEnd g r) g.layout p locals depth fs n (done (Continued m)) broken continued h.2 refl (done_corresponds (IsEnd g r) SameKind (Continued m) (Abrupt n) h)
  switch_caught (Returning v m) (Abrupt n) h = thrown_on (IsEnd g r) g.layout p locals depth fs n (done (Returning v m)) broken returned h.2 refl (done_corresponds (IsEnd g r) SameKind (Returning v m) (Abrupt n) h)
  switch_caught _ _ h = absurd h

  pub caught_same : (q : Ended) (q' : Ends X.Flow GuardKind) → Corresponds (IsEnd g (in_a_switch r)) SameKind q q' →
      Corresponds (IsEnd g r) SameKind (Then q switched) (Then q' (X.handled (λ n. execs g.layout p locals (stops_at broken) depth fs n)))
  caught_same q q' h = then_corresponds (IsEnd g (in_a_switch r)) (IsEnd g r) SameKind q q' switched (X.handled (λ n. execs g.layout p locals (stops_at broken) depth fs n)) h switch_caught

module _ (g : Scope) (level : Level) (p : Choice) (locals : List Binder) (h : Stands g level locals) (r : Around) (depth : Option ℕ) where
  -- each group's statements do what their commands do
  abbrev pub SameGroups : C.Groups → Type 1
  SameGroups C.no_groups = Unit {1}
  SameGroups (C.group ks d ss gs) = SameRuns g level p locals h r depth (λ fs m. statements (setting g p level) ss depth fs m) (commands g.layout level ss) × SameGroups gs

  module _ (fs fs' : List Runs) (paired : Paired (SameCalls g.layout g.globals g.functions) fs fs') (m n : Machine) (a : Alike g m n) (s : ℕ) (i : IntType) (v : V.Value)
      (is : n.locals (switch_local s) ≡ v) (word : IsBits (width_of g.layout.target i) v) where
    abbrev number : ℤ
    number = number_at i v

    -- no test holds
    no_group_taken : (d : Simpl) (gs : C.Groups) → are_values g.layout.target i (all_labels gs) ≡ true → has_label number gs ≡ false →
        execs g.layout p locals (cases d (cases_of g.layout level s i gs)) depth fs' n ≡ execs g.layout p locals d depth fs' n
    no_group_taken d C.no_groups t e = refl
    no_group_taken d (C.group ks true ss gs) t e =
        no_group_taken d gs (values_apart g.layout.target i ks (all_labels gs) t).1 (or_parts (is_label number ks) (has_label number gs) e).1
    no_group_taken d (C.group ks false ss gs) t e =
        let q = values_apart g.layout.target i ks (all_labels gs) t in
        let f = or_parts (is_label number ks) (has_label number gs) e in
        ap (λ b. choose b (execs g.layout p locals (commands g.layout level ss) depth fs' n) (execs g.layout p locals (cases d (cases_of g.layout level s i gs)) depth fs' n))
        (labels_tested g.layout.target i g.layout n s v is word ks q.0 ∙ f.0)
        ∙ no_group_taken d gs q.1 f.1

    default_same : (gs : C.Groups) → SameGroups gs → Corresponds (IsEnd g r) SameKind (groups (setting g p level) number false gs depth fs m) (execs g.layout p locals (default_of g.layout level gs) depth fs' n)
    default_same C.no_groups k = done_corresponds (IsEnd g r) SameKind (Next m) (Normal n) a
    default_same (C.group ks true ss gs) k = k.0 fs fs' paired m n a
    default_same (C.group ks false ss gs) k = default_same gs k.1

    -- the default's group has one of the labels too
    beside_default : (d : Simpl) (ks : List ℤ) (ss : C.Statements) (gs : C.Groups) → Corresponds (IsEnd g r) SameKind (statements (setting g p level) ss depth fs m) (execs g.layout p locals d depth fs' n) →
        are_values g.layout.target i (all_labels gs) ≡ true → (is_label number ks ≡ true → is_label number (all_labels gs) ≡ false) →
        (is_label number ks ≡ false → Corresponds (IsEnd g r) SameKind (groups (setting g p level) number true gs depth fs m) (execs g.layout p locals (cases d (cases_of g.layout level s i gs)) depth fs' n)) →
        (b : Bool) → is_label number ks ≡ b →
        Corresponds (IsEnd g r) SameKind (choose b (statements (setting g p level) ss depth fs m) (groups (setting g p level) number true gs depth fs m)) (execs g.layout p locals (cases d (cases_of g.layout level s i gs)) depth fs' n)
    beside_default d ks ss gs k t alone rest true c =
        subst (λ q. Corresponds (IsEnd g r) SameKind (statements (setting g p level) ss depth fs m) q) (sym (no_group_taken d gs t (label_in_groups number gs ∙ alone c))) k
    beside_default d ks ss gs k t alone rest false c = rest c

    -- one label is that of the operand
    group_same : (d : Simpl) (gs : C.Groups) → SameGroups gs → are_values g.layout.target i (all_labels gs) ≡ true → are_different (all_labels gs) ≡ true → has_one_default gs ≡ true →
        (has_default gs ≡ true → d ≡ default_of g.layout level gs) → has_label number gs ≡ true →
        Corresponds (IsEnd g r) SameKind (groups (setting g p level) number true gs depth fs m) (execs g.layout p locals (cases d (cases_of g.layout level s i gs)) depth fs' n)
    group_same d C.no_groups k t u o e l = absurd (false≢true l)
    group_same d (C.group ks true ss gs) k t u o e l =
        let q = values_apart g.layout.target i ks (all_labels gs) t in
        let w = different_apart number ks (all_labels gs) u in
        let z = and_parts (not (has_default gs)) (has_one_default gs) o in
        beside_default d ks ss gs
        (subst (λ c. Corresponds (IsEnd g r) SameKind (statements (setting g p level) ss depth fs m) (execs g.layout p locals c depth fs' n)) (sym (e refl)) (k.0 fs fs' paired m n a)) q.1 w.1
        (λ c. group_same d gs k.1 q.1 w.0 z.1 (λ f. absurd (false≢true (sym (not-true (has_default gs) z.0) ∙ f))) (sym (ap (λ b. b || has_label number gs) c) ∙ l))
        (is_label number ks) refl
    group_same d (C.group ks false ss gs) k t u o e l =
        let q = values_apart g.layout.target i ks (all_labels gs) t in
        let w = different_apart number ks (all_labels gs) u in
        choose_corresponds (IsEnd g r) SameKind (is_label number ks) (holds_on g.layout n (is_one_of g.layout.target i s ks)) (statements (setting g p level) ss depth fs m)
        (groups (setting g p level) number true gs depth fs m) (execs g.layout p locals (commands g.layout level ss) depth fs' n) (execs g.layout p locals (cases d (cases_of g.layout level s i gs)) depth fs' n)
        (sym (labels_tested g.layout.target i g.layout n s v is word ks q.0)) (λ c. k.0 fs fs' paired m n a)
        (λ c. group_same d gs k.1 q.1 w.0 o e (sym (ap (λ b. b || has_label number gs) c) ∙ l))

    groups_by_label : (gs : C.Groups) → SameGroups gs → are_values g.layout.target i (all_labels gs) ≡ true → are_different (all_labels gs) ≡ true → has_one_default gs ≡ true → (b : Bool) → has_label number gs ≡ b →
        Corresponds (IsEnd g r) SameKind (groups (setting g p level) number b gs depth fs m) (execs g.layout p locals (cases (default_of g.layout level gs) (cases_of g.layout level s i gs)) depth fs' n)
    groups_by_label gs k t u o true l = group_same (default_of g.layout level gs) gs k t u o (λ e. refl) l
    groups_by_label gs k t u o false l =
        subst (λ q. Corresponds (IsEnd g r) SameKind (groups (setting g p level) number false gs depth fs m) q) (sym (no_group_taken (default_of g.layout level gs) gs t l)) (default_same gs k)

  pub switch_same : (s : ℕ) (i : IntType) (e : C.Expr) (gs : C.Groups) → is_typed_at g (Integer i) e ≡ true → are_values g.layout.target i (all_labels gs) ≡ true → are_different (all_labels gs) ≡ true →
      has_one_default gs ≡ true → (r' : Around) → r ≡ in_a_switch r' → SameGroups gs →
      SameRuns g level p locals h r' depth (λ fs m. evaluated (value (context (setting g p level) m) e) (λ v. Then (groups (setting g p level) (number_at i v) (has_label (number_at i v) gs) gs depth fs m) switched))
      (guarded (guards g.layout level e) (Seq (Set (switch_local s) (exp g.layout e)) (Catch (cases (default_of g.layout level gs) (cases_of g.layout level s i gs)) (stops_at broken))))
  switch_same s i e gs x t u o r' q k fs fs' paired m n a =
      let y = and_parts (same_type (C.type_of e) (Integer i)) (is_typed g e) x in
      let whole = Catch (cases (default_of g.layout level gs) (cases_of g.layout level s i gs)) (stops_at broken) in
      evaluated_guarded (IsEnd g r') g.layout p locals depth fs' n (guards g.layout level e) (Seq (Set (switch_local s) (exp g.layout e)) whole) (value (context (setting g p level) m) e) (IsValueOn g n e)
      (λ v. Then (groups (setting g p level) (number_at i v) (has_label (number_at i v) gs) gs depth fs m) switched) (value_same g level p locals h m n a e y.1)
      (λ v z. let w = value_on g.layout n (exp g.layout e) in let b : Machine = with_local (switch_local s) w n in
      same_on_right (after_done (Normal b) (X.normally (λ c. execs g.layout p locals whole depth fs' c)))
      (caught_same g p locals r' depth fs' (groups (setting g p level) (number_at i v) (has_label (number_at i v) gs) gs depth fs m) (execs g.layout p locals (cases (default_of g.layout level gs) (cases_of g.layout level s i gs)) depth fs' b)
      (subst (λ c. Corresponds (IsEnd g c) SameKind (groups (setting g p level) (number_at i v) (has_label (number_at i v) gs) gs depth fs m) (execs g.layout p locals (cases (default_of g.layout level gs) (cases_of g.layout level s i gs)) depth fs' b)) q
      (groups_by_label fs fs' paired m b (alike_added g h.own m n a (switch_local s) w refl (λ c. absurd (false≢true c))) s i v (found_there (switch_local s) w n.locals ∙ z.is)
      (scalar_bits g.layout (Integer i) v refl (subst (λ c. HasShape (shape_of g.layout c) v) (type_is (C.type_of e) (Integer i) y.0) z.shaped)) gs k t u o (has_label (number_at i v) gs) refl))))
