-- One more of a list, and the names that are carried.
use Rattle.std.proofs.Common.{◌≡◌, Bool, true, false, cond, not, ◌&&◌, List, [], ◌∷◌, ◌++◌, map, length, string_bytes, refl, sym, ap, ◌∙◌}
use Rattle.std.proofs.lemmas.List.{map_push}
use Rattle.c_values.specs.Name.{Name, is_among}
use Rattle.expression_lang.specs.Expression.{Exp, And}
use Rattle.expression_lang.specs.declared.signatures.Binder as B
use Rattle.simpl_lang.specs.Command.{Condition, Simpl}
use Rattle.rule_local.specs.Assigned.{assigns}
use Rattle.rule_local.specs.Table.{conj}
use Rattle.rule_local.specs.Lifted.{chosen}
use Rattle.local_lift.specs.CodeNames.{names}
use Rattle.local_lift.specs.CodeLists.{carried_in, conj_before, begun_in}
use Rattle.local_lift.specs.CodeRows.{marks}
use Rattle.local_lift.specs.LiftedByLive.{carried}

pub mapped_push : {A B : Type 0} (f : A → B) (xs : List A) (x : A) (ys : List B) → map f (xs ++ x ∷ []) ++ ys ≡ map f xs ++ f x ∷ ys
mapped_push f [] x ys = refl
mapped_push f (a ∷ xs) x ys = ap (λ r. f a ∷ r) (mapped_push f xs x ys)

pub carried_here : (b : B.Binder) (bs : List B.Binder) (a f : Bool) (as' fs : List Bool) → (a && f) ≡ true → carried_in (b ∷ bs) (a ∷ as') (f ∷ fs) ≡ string_bytes b.name ∷ carried_in bs as' fs
carried_here b bs a f as' fs h = ap (λ t. cond t (string_bytes b.name ∷ carried_in bs as' fs) (carried_in bs as' fs)) h

pub carried_later : (b : B.Binder) (bs : List B.Binder) (a f : Bool) (as' fs : List Bool) → (a && f) ≡ false → carried_in (b ∷ bs) (a ∷ as') (f ∷ fs) ≡ carried_in bs as' fs
carried_later b bs a f as' fs h = ap (λ t. cond t (string_bytes b.name ∷ carried_in bs as' fs) (carried_in bs as' fs)) h

pub carried_marks : (a : Simpl) (p : Name → Bool) (bs : List B.Binder) → carried_in bs (marks (λ y. assigns y a) bs) (marks p bs) ≡ carried (names bs) a p
carried_marks a p [] = refl
carried_marks a p (b ∷ bs) = ap (λ r. cond (assigns (string_bytes b.name) a && p (string_bytes b.name)) (string_bytes b.name ∷ r) r) (carried_marks a p bs)

pub conj_last : (cs : List Condition) (c : Condition) → conj (cs ++ c ∷ []) ≡ conj_before cs c.exp
conj_last [] c = refl
conj_last (x ∷ []) c = refl
conj_last (x ∷ y ∷ cs) c = ap (λ e. And x.exp e) (conj_last (y ∷ cs) c)

pub before_last : (cs : List Condition) (c : Condition) (e : Exp) → conj_before (cs ++ c ∷ []) e ≡ conj_before cs (And c.exp e)
before_last [] c e = refl
before_last (x ∷ cs) c e = ap (λ d. And x.exp d) (before_last cs c e)

pub conj_of_last : {A : Type 0} (f : A → Condition) (all init : List A) (last : A) (w : Exp) → all ≡ init ++ last ∷ [] → w ≡ (f last).exp → conj_before (map f init) w ≡ conj (map f all)
conj_of_last f all init last w e h = ap (conj_before (map f init)) h ∙ sym (conj_last (map f init) (f last)) ∙ ap conj (sym (map_push f init last)) ∙ ap (λ cs. conj (map f cs)) (sym e)

pub before_of_last : {A : Type 0} (f : A → Condition) (all init : List A) (c : A) (v w : Exp) → all ≡ init ++ c ∷ [] → v ≡ And (f c).exp w → conj_before (map f init) v ≡ conj_before (map f all) w
before_of_last f all init c v w e h = ap (conj_before (map f init)) h ∙ sym (before_last (map f init) (f c) w) ∙ ap (λ cs. conj_before cs w) (sym (map_push f init c)) ∙ ap (λ cs. conj_before (map f cs) w) (sym e)

pub begun_here : (ps : List Name) (b : B.Binder) (bs : List B.Binder) (f : Bool) (fs : List Bool) → (f && not (is_among (string_bytes b.name) ps)) ≡ true → begun_in ps (b ∷ bs) (f ∷ fs) ≡ string_bytes b.name ∷ begun_in ps bs fs
begun_here ps b bs f fs h = ap (λ t. cond t (string_bytes b.name ∷ begun_in ps bs fs) (begun_in ps bs fs)) h

pub begun_later : (ps : List Name) (b : B.Binder) (bs : List B.Binder) (f : Bool) (fs : List Bool) → (f && not (is_among (string_bytes b.name) ps)) ≡ false → begun_in ps (b ∷ bs) (f ∷ fs) ≡ begun_in ps bs fs
begun_later ps b bs f fs h = ap (λ t. cond t (string_bytes b.name ∷ begun_in ps bs fs) (begun_in ps bs fs)) h

pub begun_marks : (ps : List Name) (p : Name → Bool) (bs : List B.Binder) → begun_in ps bs (marks p bs) ≡ chosen (λ y. p y && not (is_among y ps)) (names bs)
begun_marks ps p [] = refl
begun_marks ps p (b ∷ bs) = ap (λ r. cond (p (string_bytes b.name) && not (is_among (string_bytes b.name) ps)) (string_bytes b.name ∷ r) r) (begun_marks ps p bs)

pub mapped_none : {A B : Type 0} (f : A → B) (xs : List A) → map f xs ≡ [] → length xs ≡ 0
mapped_none f [] h = refl
mapped_none f (x ∷ xs) h = let clash : f x ∷ map f xs ≡ [] = h in cc
