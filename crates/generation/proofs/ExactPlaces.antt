-- Places: where a C place is the Simpl pointer and steps are, its conditions are those of its root, its indices, its bounds
-- and its access, in this order, and what lies there is what Simpl reads.
use Rattle.std.proofs.Common.{◌≡◌, Bool, true, false, not, ◌||◌, List, [], ◌∷◌, Option, Some, None, Ok, cond, pos, refl, sym, ap, subst}
use Rattle.std.proofs.lemmas.Bool.{and_parts}
use Rattle.c_values.specs.Name.{Name, same_name}
use Rattle.c_values.specs.Types.{CType}
use Rattle.c_values.specs.Value.{Value, word_in}
use Rattle.c_values.specs.Layout.{Layout, IsLayout, GlobalVar, shape_of, is_object, global_type}
use Rattle.c_values.specs.Path.{Step, HasShape}
use Rattle.c_values.proofs.Leads.{leads_in_range, leads_spot}
use Rattle.c_memory.specs.Tags.{is_pointer_ok}
use Rattle.c_memory.specs.Heap.{is_tagged}
use Rattle.c_memory.proofs.Objects.{object_complete}
use Rattle.expression_lang.specs.Evaluation.{Env, State}
use Rattle.expression_lang.specs.Evaluation as E
use Rattle.expression_lang.specs.Expression as X
use Rattle.expression_lang.specs.Sort.{Level, is_lifted}
use Rattle.expression_lang.specs.GuardKind.{GuardKind}
use Rattle.expression_lang.specs.GuardKind as K
use Rattle.c_lang.specs.Typed as C
use Rattle.c_lang.specs.WellTyped.{Scope, shape_along, leads_to, shape_in, are_globals}
use Rattle.c_meaning.specs.CValue.{Context, unless, Located, InMemory, InGlobal, are_in_bounds, accessible, value, indexed}
use Rattle.c_meaning.specs.CValue as V
use Rattle.generation.specs.Guards.{when, exp, content, path_of, guards, bounds, index_guards, accesses}
use Rattle.generation.specs.Refused.{refused}
use Rattle.expression_lang.specs.States.{IsState}
use Rattle.c_lang.proofs.Paths.{none_along}
use Rattle.generation.proofs.ReadHeap.{sel_shaped, read_shaped}
use Rattle.generation.proofs.ExactValue.{Same, IsValueOf, IsExactValue, IsAt, IsExactPlace}
use Rattle.generation.proofs.FirstRefused.{same_unless, same_bind, same_both}
use Rattle.generation.proofs.ExactPath.{bounds_refused, path_has_elements, path_ends}

-- a global's type is one of an object
pub global_object : (l : Layout) (vs : List GlobalVar) (x : Name) (t : CType) → are_globals l vs ≡ true → global_type vs x ≡ Some t → is_object l t ≡ true
global_object l [] x t h e = absurd cc
global_object l (v ∷ vs) x t h e =
    let p = and_parts (is_object l v.type) (are_globals l vs) h in by_name (same_name v.name x) e p.0 (global_object l vs x t p.1)
  where
    by_name : (b : Bool) → cond b (Some v.type) (global_type vs x) ≡ Some t → is_object l v.type ≡ true → (global_type vs x ≡ Some t → is_object l t ≡ true) → is_object l t ≡ true
    by_name true e h rest = let same : v.type ≡ t = cc in subst (λ u. is_object l u ≡ true) same h
    by_name false e h rest = rest e

same_bounds : {A : Type 0} (b : Bool) (o : Option GuardKind) (a : A) (Q : A → Type 0) → o ≡ cond b None (Some K.Bounds) → (b ≡ true → Q a) → Same (unless b K.Bounds (Ok a)) o Q
same_bounds true o a Q h q = (h, q refl)
same_bounds false o a Q h q = h

abbrev pub context_of : Scope → Level → Env → State → Context
context_of g level locals s = record { layout = g.layout; level = level; locals = locals; state = s }

abbrev pub IsExactPath : Scope → Context → Env → C.Path → Type 0
IsExactPath g c env path = Same (indexed c path) (refused g.layout env c.state (index_guards g.layout c.level path)) (λ ps. E.steps g.layout env c.state (path_of g.layout path) ≡ ps)

module _ (g : Scope) (level : Level) (locals : Env) (s : State) (env : Env) where
  abbrev c : Context
  c = context_of g level locals s

  tag_exact : {A : Type 0} (b : Bool) (t : CType) (p : C.Expr) (a : A) (Q : A → Type 0) → Q a →
      Same (unless (not b || is_tagged g.layout s.heap t (word_in (E.value g.layout env s (exp g.layout p))).bits) K.Tag (Ok a)) (refused g.layout env s (cond b (when K.Tag (X.Tagged t (exp g.layout p)) ∷ []) [])) Q
  tag_exact true t p a Q q = same_unless g.layout env s (is_tagged g.layout s.heap t (word_in (E.value g.layout env s (exp g.layout p))).bits) K.Tag (X.Tagged t (exp g.layout p)) [] (Ok a) Q refl (λ h. (refl, q))
  tag_exact false t p a Q q = (refl, q)

  -- the pointer, and then the tag
  pub access_exact : {A : Type 0} (p : C.Place) (w : Located) (a : A) (Q : A → Type 0) → IsAt g env s p w → Q a → Same (accessible c w (Ok a)) (refused g.layout env s (accesses g.layout level p)) Q
  access_exact (C.Through t p path u) w a Q at q =
      let address = (word_in (E.value g.layout env s (exp g.layout p))).bits in
      subst (λ x. Same (accessible c x (Ok a)) (refused g.layout env s (accesses g.layout level (C.Through t p path u))) Q) (sym at.is)
      (same_unless g.layout env s (is_pointer_ok g.layout t address) K.Pointer (X.PtrOk t (exp g.layout p)) (cond (is_lifted level) (when K.Tag (X.Tagged t (exp g.layout p)) ∷ []) [])
      (unless (not (is_lifted level) || is_tagged g.layout s.heap t address) K.Tag (Ok a)) Q refl (λ h. tag_exact (is_lifted level) t p a Q q))
  access_exact (C.InGlobal x path u) w a Q at q =
      subst (λ x. Same (accessible c x (Ok a)) None Q) (sym at.is) (refl, q)

  module _ (layout : IsLayout g.layout) (state : IsState g.layout g.globals s) where
    -- what lies at a place
    pub content_exact : (p : C.Place) (w : Located) → IsAt g env s p w → (E.value g.layout env s (content g.layout p) ≡ V.content c w) × HasShape (shape_of g.layout (C.place_type p)) (V.content c w)
    content_exact (C.Through t p path u) w at =
        let address = (word_in (E.value g.layout env s (exp g.layout p))).bits in
        let ps = E.steps g.layout env s (path_of g.layout path) in
        let end = at.ends in (
          ap (V.content c) (sym at.is),
          subst (λ x. HasShape (shape_of g.layout u) (V.content c x)) (sym at.is)
              (read_shaped g.layout layout t (object_complete g.layout t at.object) address ps (record { offset = pos end.at; shape = shape_of g.layout u }) (leads_in_range end.leads) (leads_spot end.leads) s.heap state.heap),
        )
    content_exact (C.InGlobal x path u) w at = (
      ap (V.content c) (sym at.is),
      subst (λ y. HasShape (shape_of g.layout u) (V.content c y)) (sym at.is) (sel_shaped (s.globals x) (state.globals x at.root at.found) at.ends.leads),
    )

    pub through_exact : (t : CType) (p : C.Expr) (path : C.Path) (u : CType) → is_object g.layout t ≡ true → leads_to (shape_along (Some (shape_of g.layout t)) path) u ≡ true →
        IsExactValue g c env p → IsExactPath g c env path → IsExactPlace g c env (C.Through t p path u)
    through_exact t p path u object typed hp hpath =
        same_both g.layout env s (value c p) (indexed c path) (λ v ps. unless (are_in_bounds path ps) K.Bounds (Ok (InMemory t (word_in v) ps)))
        (guards g.layout level p) (index_guards g.layout level path) (bounds g.layout path) (IsValueOf g.layout env s p) (λ ps. steps ≡ ps) (IsAt g env s (C.Through t p path u)) hp hpath
        (λ v ps hv hps. subst (λ qs. Same (unless (are_in_bounds path qs) K.Bounds (Ok (InMemory t (word_in v) qs))) (refused g.layout env s (bounds g.layout path)) (IsAt g env s (C.Through t p path u))) hps (at_steps v hv))
      where
        steps : List Step
        steps = E.steps g.layout env s (path_of g.layout path)

        at_steps : (v : Value) → IsValueOf g.layout env s p v →
            Same (unless (are_in_bounds path steps) K.Bounds (Ok (InMemory t (word_in v) steps))) (refused g.layout env s (bounds g.layout path)) (IsAt g env s (C.Through t p path u))
        at_steps v hv =
            let complete = object_complete g.layout t object in
            same_bounds (are_in_bounds path steps) (refused g.layout env s (bounds g.layout path)) (InMemory t (word_in v) steps) (IsAt g env s (C.Through t p path u))
            (bounds_refused g.layout env s path (path_has_elements g.layout env s layout t complete path u typed))
            (λ b. record { is = ap (λ x. InMemory t (word_in x) steps) (sym hv.is); object = object; ends = path_ends g.layout env s layout t complete path u typed b })

    pub in_global_exact : (x : Name) (path : C.Path) (u : CType) → are_globals g.layout g.globals ≡ true → leads_to (shape_along (shape_in g.layout (global_type g.globals x)) path) u ≡ true →
        IsExactPath g c env path → IsExactPlace g c env (C.InGlobal x path u)
    in_global_exact x path u known typed hpath =
        same_bind g.layout env s (indexed c path) (λ ps. unless (are_in_bounds path ps) K.Bounds (Ok (InGlobal x ps)))
        (index_guards g.layout level path) (bounds g.layout path) (λ ps. steps ≡ ps) (IsAt g env s (C.InGlobal x path u)) hpath
        (λ ps hps. subst (λ qs. Same (unless (are_in_bounds path qs) K.Bounds (Ok (InGlobal x qs))) (refused g.layout env s (bounds g.layout path)) (IsAt g env s (C.InGlobal x path u))) hps
        (by_type (global_type g.globals x) refl typed))
      where
        steps : List Step
        steps = E.steps g.layout env s (path_of g.layout path)

        by_type : (o : Option CType) → global_type g.globals x ≡ o → leads_to (shape_along (shape_in g.layout o) path) u ≡ true →
            Same (unless (are_in_bounds path steps) K.Bounds (Ok (InGlobal x steps))) (refused g.layout env s (bounds g.layout path)) (IsAt g env s (C.InGlobal x path u))
        by_type None e typed = absurd (let none : leads_to None u ≡ true = subst (λ o. leads_to o u ≡ true) (none_along path) typed in cc)
        by_type (Some t) e typed =
            let complete = object_complete g.layout t (global_object g.layout g.globals x t known e) in
            same_bounds (are_in_bounds path steps) (refused g.layout env s (bounds g.layout path)) (InGlobal x steps) (IsAt g env s (C.InGlobal x path u))
            (bounds_refused g.layout env s path (path_has_elements g.layout env s layout t complete path u typed))
            (λ b. record { root = t; found = e; is = refl; ends = path_ends g.layout env s layout t complete path u typed b })
