-- The values that a statement evaluates, and what is stored.
use Rattle.std.proofs.Common.{◌≡◌, ℕ, true, List, ◌++◌, Option, Some, Ok, sym, subst, ap, ◌∙◌}
use Rattle.correspondence.specs.Outcome.{done}
use Rattle.correspondence.specs.Corresponds.{Corresponds}
use Rattle.correspondence.proofs.Corresponds.{done_corresponds}
use Rattle.c_values.specs.Name.{Name, same_name, with_name}
use Rattle.c_values.specs.Types.{CType}
use Rattle.c_values.specs.Word.{Word}
use Rattle.c_values.specs.Value as V
use Rattle.c_values.specs.Layout.{Layout, IsLayout, GlobalVar, shape_of, global_type}
use Rattle.c_values.specs.Path.{Step, HasShape, upd}
use Rattle.c_values.specs.Choice.{Choice}
use Rattle.c_values.proofs.Laid.{name_is}
use Rattle.c_values.proofs.Leads.{leads_in_range, leads_spot}
use Rattle.c_values.proofs.Shaped.{upd_shaped}
use Rattle.c_values.proofs.Options.{some_is}
use Rattle.c_memory.specs.Heap.{write_heap}
use Rattle.expression_lang.specs.Sort.{Level}
use Rattle.expression_lang.specs.Signature.{Binder, values_of}
use Rattle.expression_lang.specs.Expression as Exp
use Rattle.expression_lang.specs.Evaluation.{Env, State}
use Rattle.expression_lang.specs.Evaluation as E
use Rattle.expression_lang.specs.Machine.{Machine, with_local, machine_with}
use Rattle.simpl_lang.specs.Exec.{Normal, Runs, execs, value_on}
use Rattle.c_lang.specs.Typed as C
use Rattle.c_lang.specs.WellTyped.{Scope, Around, is_typed, is_typed_place, is_typed_target, are_arguments, are_variables, variable_type}
use Rattle.c_meaning.specs.CValue.{Located, value, values, located, accessible, ◌>>=◌}
use Rattle.c_meaning.specs.CRun.{Next, context, assigned, stored}
use Rattle.generation.specs.Guards.{exp, exps, path_of, guards, argument_guards, place_guards, accesses}
use Rattle.generation.specs.Generate.{guarded, assignment, target_guards}
use Rattle.generation.specs.Refused.{refused}
use Rattle.c_meaning.specs.Fitting.{AreOfTypes}
use Rattle.expression_lang.specs.States.{IsState}
use Rattle.generation.proofs.ExactValue.{Same, IsValueOf, IsAt, EndsAt}
use Rattle.generation.proofs.ExactTests.{by_test}
use Rattle.generation.proofs.ExactGuards.{SameKind, evaluated_guarded}
use Rattle.generation.proofs.ExactTruth.{scalar_bits}
use Rattle.generation.proofs.ExactMachines.{Alike, setting, fitting, is_declared, declared_scalar, alike_declared, alike_at}
use Rattle.generation.proofs.ExactEnds.{IsEnd, Stands}
use Rattle.generation.proofs.WrittenHeap.{written_heap}
use Rattle.generation.proofs.ValuesExact.{values_exact, places_exact, arguments_exact}

abbrev pub IsValueOn : Scope → Machine → C.Expr → V.Value → Type 0
IsValueOn g n e v = IsValueOf g.layout n.locals n.state e v

-- the values of arguments, of the parameters' types
abbrev AreValuesIn : Scope → Env → State → List C.Variable → List C.Expr → List V.Value → Type 0
AreValuesIn g env s xs es vs = (values_of g.layout env s (exps g.layout es) ≡ vs) × AreOfTypes g.layout xs vs

abbrev pub AreValuesOn : Scope → Machine → List C.Variable → List C.Expr → List V.Value → Type 0
AreValuesOn g n xs es vs = AreValuesIn g n.locals n.state xs es vs

-- a write keeps what a state can be
pub written : (l : Layout) (gs : List GlobalVar) (s : State) (t : CType) (w : Word) (ps : List Step) (u : CType) (v : V.Value) → IsLayout l → IsState l gs s → EndsAt l (shape_of l t) ps u → HasShape (shape_of l u) v →
    IsState l gs (record { heap = write_heap l s.heap t w.bits ps v; globals = s.globals })
written l gs s t w ps u v h is to x =
    record { heap = written_heap l s.heap t w.bits ps _ v h is.heap (leads_in_range to.leads) (leads_spot to.leads) x; globals = is.globals }

pub written_global : (l : Layout) (gs : List GlobalVar) (s : State) (x : Name) (ps : List Step) (t u : CType) (v : V.Value) → IsState l gs s → global_type gs x ≡ Some t →
    EndsAt l (shape_of l t) ps u → HasShape (shape_of l u) v → IsState l gs (record { heap = s.heap; globals = with_name x (upd (s.globals x) ps v) s.globals })
written_global l gs s x ps t u v is e to h = record {
  heap = is.heap;
  globals = λ y w k. by_test (λ z. HasShape (shape_of l w) z) (same_name x y) (upd (s.globals x) ps v) (s.globals y)
      (λ b. subst (λ z. HasShape (shape_of l z) (upd (s.globals x) ps v)) (some_is (sym e ∙ ap (λ z. global_type gs z) (name_is x y b) ∙ k)) (upd_shaped (s.globals x) v (is.globals x t e) h to.leads))
      (λ b. is.globals y w k);
}

same_write : (l : Layout) (s s' : State) (t : CType) (w : Word) (ps : List Step) (v v' : V.Value) → s' ≡ s → v' ≡ v →
    ◌≡◌ {A = State} (record { heap = write_heap l s'.heap t w.bits ps v'; globals = s'.globals }) (record { heap = write_heap l s.heap t w.bits ps v; globals = s.globals })
same_write l s s' t w ps v v' a b = cc

same_write_global : (s s' : State) (x : Name) (ps : List Step) (v v' : V.Value) → s' ≡ s → v' ≡ v →
    ◌≡◌ {A = State} (record { heap = s'.heap; globals = with_name x (upd (s'.globals x) ps v') s'.globals }) (record { heap = s.heap; globals = with_name x (upd (s.globals x) ps v) s.globals })
same_write_global s s' x ps v v' a b = cc

module _ (g : Scope) (level : Level) (p : Choice) (locals : List Binder) (h : Stands g level locals) where
  pub value_same : (m n : Machine) → Alike g m n → (e : C.Expr) → is_typed g e ≡ true →
      Same (value (context (setting g p level) m) e) (refused g.layout n.locals n.state (guards g.layout level e)) (IsValueOn g n e)
  value_same m n a e t =
      subst (λ s. Same (value (context (setting g p level) m) e) (refused g.layout n.locals s (guards g.layout level e)) (IsValueOf g.layout n.locals s e)) (sym a.state)
      (values_exact g (context (setting g p level) m) n.locals h.layout h.globals h.own (fitting g p level m n a) a.locals e t)

  pub place_same : (m n : Machine) → Alike g m n → (a : C.Place) → is_typed_place g a ≡ true →
      Same (located (context (setting g p level) m) a >>= λ s. accessible (context (setting g p level) m) s (Ok s))
      (refused g.layout n.locals n.state (place_guards g.layout level a ++ accesses g.layout level a)) (IsAt g n.locals n.state a)
  place_same m n x a t =
      subst (λ s. Same (located (context (setting g p level) m) a >>= λ s'. accessible (context (setting g p level) m) s' (Ok s'))
      (refused g.layout n.locals s (place_guards g.layout level a ++ accesses g.layout level a)) (IsAt g n.locals s a)) (sym x.state)
      (places_exact g (context (setting g p level) m) n.locals h.layout h.globals h.own (fitting g p level m n x) x.locals a t)

  pub arguments_same : (m n : Machine) → Alike g m n → (xs : List C.Variable) → are_variables xs ≡ true → (es : List C.Expr) → are_arguments g xs es ≡ true →
      Same (values (context (setting g p level) m) es) (refused g.layout n.locals n.state (argument_guards g.layout level es)) (AreValuesOn g n xs es)
  arguments_same m n a xs own es t =
      subst (λ s. Same (values (context (setting g p level) m) es) (refused g.layout n.locals s (argument_guards g.layout level es)) (AreValuesIn g n.locals s xs es)) (sym a.state)
      (arguments_exact g (context (setting g p level) m) n.locals h.layout h.globals h.own (fitting g p level m n a) a.locals xs own es t)

  module _ (r : Around) (depth : Option ℕ) (fs : List Runs) (e : Exp.Exp) (v : V.Value) (m n : Machine) (a : Alike g m n) (is : value_on g.layout n e ≡ v) where
    -- both sides go on from a state that is the same
    stored_same : (s s' : State) → s' ≡ s → IsState g.layout g.globals s → Corresponds (IsEnd g r) SameKind (done (Next (machine_with m.locals s))) (done (Normal (machine_with n.locals s')))
    stored_same s s' q k =
        done_corresponds (IsEnd g r) SameKind (Next (machine_with m.locals s)) (Normal (machine_with n.locals s')) (subst (λ z. Alike g (machine_with m.locals s) (machine_with n.locals z)) (sym q) (alike_at g h.own m n a s k))

    at_place : (b : C.Place) (s : Located) → IsAt g n.locals n.state b s → HasShape (shape_of g.layout (C.place_type b)) v →
        Corresponds (IsEnd g r) SameKind (done (Next (stored g.layout s v m))) (execs g.layout p locals (assignment g.layout (C.ToPlace b) e) depth fs n)
    at_place (C.Through t b path u) s k x =
        let w = V.word_in (value_on g.layout n (exp g.layout b)) in
        let ps = E.steps g.layout n.locals n.state (path_of g.layout path) in
        subst (λ z. Corresponds (IsEnd g r) SameKind (done (Next (stored g.layout z v m))) (execs g.layout p locals (assignment g.layout (C.ToPlace (C.Through t b path u)) e) depth fs n)) (sym k.is)
        (stored_same (record { heap = write_heap g.layout m.state.heap t w.bits ps v; globals = m.state.globals })
        (record { heap = write_heap g.layout n.state.heap t w.bits ps (value_on g.layout n e); globals = n.state.globals })
        (same_write g.layout m.state n.state t w ps v (value_on g.layout n e) a.state is) (written g.layout g.globals m.state t w ps u v h.layout a.can_be k.ends x))
    at_place (C.InGlobal y path u) s k x =
        let ps = E.steps g.layout n.locals n.state (path_of g.layout path) in
        subst (λ z. Corresponds (IsEnd g r) SameKind (done (Next (stored g.layout z v m))) (execs g.layout p locals (assignment g.layout (C.ToPlace (C.InGlobal y path u)) e) depth fs n)) (sym k.is)
        (stored_same (record { heap = m.state.heap; globals = with_name y (upd (m.state.globals y) ps v) m.state.globals })
        (record { heap = n.state.heap; globals = with_name y (upd (n.state.globals y) ps (value_on g.layout n e)) n.state.globals })
        (same_write_global m.state n.state y ps v (value_on g.layout n e) a.state is) (written_global g.layout g.globals m.state y ps k.root u v a.can_be k.found k.ends x))

    pub assigned_same : (target : C.Destination) → is_typed_target g target ≡ true → HasShape (shape_of g.layout (C.target_type target)) v →
        Corresponds (IsEnd g r) SameKind (assigned (setting g p level) target v m) (execs g.layout p locals (guarded (target_guards g.layout level target) (assignment g.layout target e)) depth fs n)
    assigned_same (C.ToLocal x t) d k =
        let b = is_declared (variable_type g.variables x) t d in
        done_corresponds (IsEnd g r) SameKind (Next (with_local x v m)) (Normal (with_local x (value_on g.layout n e) n))
        (subst (λ w. Alike g (with_local x v m) (with_local x w n)) (sym is) (alike_declared g h.own m n a x t v b (scalar_bits g.layout t v (declared_scalar g.variables h.own x t b).1 k)))
    assigned_same (C.ToPlace b) d k =
        evaluated_guarded (IsEnd g r) g.layout p locals depth fs n (place_guards g.layout level b ++ accesses g.layout level b) (assignment g.layout (C.ToPlace b) e)
        (located (context (setting g p level) m) b >>= λ s. accessible (context (setting g p level) m) s (Ok s)) (IsAt g n.locals n.state b) (λ s. done (Next (stored g.layout s v m)))
        (place_same m n a b d) (λ s x. at_place b s x k)
