-- A program that the locals of a command were lifted to has a text where the command has one and the locals are names of kinds, and so has
-- the tree of rules that leads there. It binds few names at a time where the locals are few.
use Rattle.std.proofs.Common.{◌≡◌, suc, ◌^◌, nat_lt, Bool, true, false, not, ◌&&◌, List, [], ◌∷◌, length, Option, Some, None, cond, refl, sym, subst}
use Rattle.std.proofs.lemmas.Bool.{and_parts, and_from, lt-ltb}
use Rattle.std.proofs.lemmas.Nat.{pow_pos}
use Rattle.c_values.specs.Name.{Name, same_name, is_among, are_distinct}
use Rattle.expression_lang.specs.Expression.{Exp, Var}
use Rattle.expression_lang.specs.Sort.{Kind, WordKind, NatKind, IntKind, BoolKind, is_width, is_kind, are_kinds}
use Rattle.expression_lang.specs.Signature.{Binder, names_of, kinds_of}
use Rattle.expression_text.specs.Names.{is_name}
use Rattle.expression_text.specs.ExpText.{is_exp, is_path}
use Rattle.expression_text.specs.TypeText.{is_type}
use Rattle.expression_text.specs.Lists.{each}
use Rattle.simpl_lang.specs.Command as C
use Rattle.simpl_lang.specs.Command.{Simpl, Condition, kind_of}
use Rattle.command_text.specs.CommandText.{is_command, is_condition}
use Rattle.monad_lang.specs.Program as M
use Rattle.monad_lang.specs.Program.{Mon}
use Rattle.monad_lang.specs.Names.{is_free}
use Rattle.program_text.specs.MonText.{is_mon, is_start}
use Rattle.rule_local.specs.Assigned.{assigns}
use Rattle.rule_local.specs.Rule as R
use Rattle.rule_local.specs.Rule.{Rule, Context}
use Rattle.rule_local.specs.Table.{vars, vars_with, as_starts, conj, picked_kind, zero_exp, zero_first, zeros, is_needed}
use Rattle.rule_local.specs.Lifted.{Lifted, leaf, over_one, over_two, chosen, handed_on, kind_there, set_lifted, seq_lifted, while_lifted, lifted, zeros_there, begun, locals_lifted}
use Rattle.rule_local.proofs.HandedOn.{settled_has}
use Rattle.rule_local.proofs.Parts.{starts_named}
use Rattle.rule_text.specs.Arities.{fits}
use Rattle.rule_text.specs.LocalText.{arity, is_tree}
use Rattle.made_texts.specs.Few.{binds_few}
use Rattle.made_texts.proofs.NamesChosen.{AreNames, no_names, one_name, are_chosen}

pub record HaveTexts (a : Lifted) : Type 0 where
  pub program : is_mon a.right ≡ true
  pub few : binds_few a.right ≡ true
  pub rules : is_tree a.tree ≡ true

alone : (rule : Rule) (m : Mon) → fits (arity rule) 0 ≡ true → is_mon m ≡ true → binds_few m ≡ true → HaveTexts (leaf rule m)
alone rule m f h k = record { program = h; few = k; rules = and_from _ _ (and_from _ _ f refl) refl }

with_one : (rule : Rule) (m : Mon) (a : Lifted) → fits (arity rule) 1 ≡ true → is_mon m ≡ true → binds_few m ≡ true →
    HaveTexts a → HaveTexts (over_one rule m a)
with_one rule m a f h k l = record {
  program = h;
  few = k;
  rules = and_from _ _ (and_from _ _ f refl) (and_from _ _ l.rules refl);
}

with_two : (rule : Rule) (m : Mon) (a b : Lifted) → fits (arity rule) 2 ≡ true → is_mon m ≡ true → binds_few m ≡ true →
    HaveTexts a → HaveTexts b → HaveTexts (over_two rule m a b)
with_two rule m a b f h k l n = record {
  program = h;
  few = k;
  rules = and_from _ _ (and_from _ _ f refl) (and_from _ _ l.rules (and_from _ _ n.rules refl));
}

-- a sequence of names
bound : (m : Mon) (xs : List Name) (n : Mon) → AreNames xs → is_mon m ≡ true → is_mon n ≡ true → is_mon (M.Bind m xs n) ≡ true
bound m xs n h k l = and_from _ _ (and_from _ _ h.names h.distinct) (and_from _ _ k l)

few_bound : (m : Mon) (xs : List Name) (n : Mon) → AreNames xs → binds_few m ≡ true → binds_few n ≡ true →
    binds_few (M.Bind m xs n) ≡ true
few_bound m xs n h k l = and_from _ _ h.few (and_from _ _ k l)

-- Expressions

are_vars : (xs : List Name) → each is_name xs ≡ true → each is_exp (vars xs) ≡ true
are_vars [] h = refl
are_vars (x ∷ xs) h =
    let p = and_parts (is_name x) (each is_name xs) h in and_from (is_name x) (each is_exp (vars xs)) p.0 (are_vars xs p.1)

are_vars_with : (x : Name) (e : Exp) → is_exp e ≡ true → (ys : List Name) → each is_name ys ≡ true →
    each is_exp (vars_with x e ys) ≡ true
are_vars_with x e k [] h = refl
are_vars_with x e k (y ∷ ys) h =
    let p = and_parts (is_name y) (each is_name ys) h in
    and_from (is_exp (cond (same_name x y) e (Var y))) (each is_exp (vars_with x e ys)) (by_test (same_name x y) p.0)
    (are_vars_with x e k ys p.1)
  where
    by_test : (b : Bool) → is_name y ≡ true → is_exp (cond b e (Var y)) ≡ true
    by_test true h = k
    by_test false h = h

are_starts : (xs : List Name) → each is_name xs ≡ true → each is_start (as_starts xs) ≡ true
are_starts [] h = refl
are_starts (x ∷ xs) h =
    let p = and_parts (is_name x) (each is_name xs) h in
    and_from (is_name x && is_name x) (each is_start (as_starts xs)) (and_from (is_name x) (is_name x) p.0 p.0)
    (are_starts xs p.1)

joined : (cs : List Condition) → each is_condition cs ≡ true → is_exp (conj cs) ≡ true
joined [] h = refl
joined (c ∷ []) h = (and_parts (is_condition c) true h).0
joined (c ∷ d ∷ cs) h =
    let p = and_parts (is_condition c) (each is_condition (d ∷ cs)) h in
    and_from (is_exp c.exp) (is_exp (conj (d ∷ cs))) p.0 (joined (d ∷ cs) p.1)

-- Kinds

kind_of_names : (bs : List Binder) → are_kinds (kinds_of bs) ≡ true → (x : Name) → is_kind (kind_there (kind_of bs x)) ≡ true
kind_of_names [] h x = refl
kind_of_names (b ∷ bs) h x =
    let p = and_parts (is_kind b.kind) (are_kinds (kinds_of bs)) h in by_test (same_name b.name x) p.0 (kind_of_names bs p.1 x)
  where
    by_test : (c : Bool) → is_kind b.kind ≡ true → is_kind (kind_there (kind_of bs x)) ≡ true →
        is_kind (kind_there (cond c (Some b.kind) (kind_of bs x))) ≡ true
    by_test true h k = h
    by_test false h k = k

picked : (o : Option Kind) → is_kind (kind_there o) ≡ true → is_kind (kind_there (picked_kind o)) ≡ true
picked None h = refl
picked (Some BoolKind) h = refl
picked _ h = h

zero_text : (k : Kind) → is_kind k ≡ true → is_exp (zero_exp k) ≡ true
zero_text (WordKind n) h = and_from (is_width n) (nat_lt 0 (2 ^ n)) h (lt-ltb 0 (2 ^ n) (pow_pos n))
zero_text (NatKind n) h = and_from (is_width n) (nat_lt 0 (2 ^ n)) h (lt-ltb 0 (2 ^ n) (pow_pos n))
zero_text (IntKind n) h = and_from (is_width n) (nat_lt 0 (2 ^ n)) h (lt-ltb 0 (2 ^ n) (pow_pos n))
zero_text BoolKind h = refl

zero_before : (o : Option Kind) (q : Option (List Exp)) → is_kind (kind_there o) ≡ true → each is_exp (zeros_there q) ≡ true →
    each is_exp (zeros_there (zero_first o q)) ≡ true
zero_before (Some j) (Some es) h k = and_from (is_exp (zero_exp j)) (each is_exp es) (zero_text j h) k
zero_before _ _ _ _ = refl

are_zeros : (bs : List Binder) → are_kinds (kinds_of bs) ≡ true → (xs : List Name) →
    each is_exp (zeros_there (zeros bs xs)) ≡ true
are_zeros bs h [] = refl
are_zeros bs h (x ∷ xs) = zero_before (kind_of bs x) (zeros bs xs) (kind_of_names bs h x) (are_zeros bs h xs)

-- Programs

set_texts : (b : Bool) (x : Name) (e : Exp) (vs : List Name) → is_exp e ≡ true → each is_name vs ≡ true →
    HaveTexts (set_lifted b x e vs)
set_texts true x e vs h k = alone R.Set (M.Ret (vars_with x e vs)) refl (are_vars_with x e h vs k) refl
set_texts false x e vs h k = alone R.Dead (M.Ret (vars vs)) refl (are_vars vs k) refl

module _ (bs : List Binder) (names : AreNames (names_of bs)) (kinds : are_kinds (kinds_of bs) ≡ true) where
  what_is_handed_on : (gs : List Condition) (e : Exp) (a : Simpl) (body : List Name → Mon) (vs : List Name) →
      AreNames (handed_on (names_of bs) gs e a body vs)
  what_is_handed_on gs e a body vs =
      settled_has AreNames (λ us. chosen (λ y. assigns y a && is_needed (conj gs) e (body us) vs y) (names_of bs))
      (chosen (λ y. assigns y a) (names_of bs)) (are_chosen (λ y. assigns y a) (names_of bs) names)
      (λ us h. are_chosen (λ y. assigns y a && is_needed (conj gs) e (body us) vs y) (names_of bs) names)
      (suc (length (names_of bs))) [] no_names

  seq_texts : (us : List Name) (first : List Name → Lifted) (second : Lifted) → AreNames us → HaveTexts (first us) →
      HaveTexts second → HaveTexts (seq_lifted us first second)
  seq_texts us first second h k l =
      with_two R.Seq (M.Bind (first us).right us second.right) (first us) second refl
      (bound (first us).right us second.right h k.program l.program)
      (few_bound (first us).right us second.right h k.few l.few) k l

  while_texts : (gs : List Condition) (e : Exp) (vs us : List Name) (body : List Name → Lifted) →
      each is_condition gs ≡ true → is_exp e ≡ true → each is_name vs ≡ true → AreNames us → HaveTexts (body us) →
      HaveTexts (while_lifted gs e vs us body)
  while_texts gs e vs us body g h v n k =
      let m = M.Loop (as_starts us) (conj gs) e (body us).right in
      let loop : is_mon m ≡ true = and_from _ _
      (and_from _ _ (are_starts us n.names) (subst (λ xs. are_distinct xs ≡ true) (sym (starts_named us)) n.distinct))
      (and_from _ _ (joined gs g) (and_from _ _ h k.program)) in
      with_one R.While (M.Bind m us (M.Ret (vars vs))) (body us) refl (bound m us (M.Ret (vars vs)) n loop (are_vars vs v))
      (few_bound m us (M.Ret (vars vs)) n k.few refl) k

  -- a step whose values aren't named, and then the outputs
  then_vars : (rule : Rule) (m : Mon) (xs vs : List Name) → fits (arity rule) 0 ≡ true → AreNames xs → each is_name vs ≡ true →
      is_mon m ≡ true → binds_few m ≡ true → HaveTexts (leaf rule (M.Bind m xs (M.Ret (vars vs))))
  then_vars rule m xs vs f n v h k =
      alone rule (M.Bind m xs (M.Ret (vars vs))) f (bound m xs (M.Ret (vars vs)) n h (are_vars vs v))
      (few_bound m xs (M.Ret (vars vs)) n k refl)

  pub lifted_texts : (a : Simpl) (vs : List Name) → is_command a ≡ true → each is_name vs ≡ true → HaveTexts (lifted bs a vs)
  lifted_texts C.Skip vs h v = alone R.Skip (M.Ret (vars vs)) refl (are_vars vs v) refl
  lifted_texts (C.Set x e) vs h v =
      set_texts (is_among x vs) x e vs (and_parts (is_name x) (is_exp e) h).1 v
  lifted_texts (C.SetGlobal x path e) vs h v =
      let p = and_parts (is_name x) (is_path path && is_exp e) h in
      let q = and_parts (is_path path) (is_exp e) p.1 in
      then_vars R.Global (M.Write (M.Global x path) e) [] vs refl no_names v (and_from _ _ (and_from _ _ p.0 q.0) q.1) refl
  lifted_texts (C.Store t p path e) vs h v =
      let i = and_parts (is_type t) (is_exp p && (is_path path && is_exp e)) h in
      let j = and_parts (is_exp p) (is_path path && is_exp e) i.1 in
      let k = and_parts (is_path path) (is_exp e) j.1 in
      then_vars R.Memory (M.Write (M.Stored t p path) e) [] vs refl no_names v
      (and_from _ _ (and_from _ _ i.0 (and_from _ _ j.0 k.0)) k.1) refl
  lifted_texts (C.Pick x) vs h v =
      then_vars R.Pick (M.Pick (kind_there (picked_kind (kind_of bs x)))) (x ∷ []) vs refl (one_name x h) v
      (picked (kind_of bs x) (kind_of_names bs kinds x)) refl
  lifted_texts (C.Seq a b) vs h v =
      let p = and_parts (is_command a) (is_command b) h in
      let second = lifted bs b vs in
      let us = chosen (λ y. assigns y a && is_free y second.right) (names_of bs) in
      let n = are_chosen (λ y. assigns y a && is_free y second.right) (names_of bs) names in
      seq_texts us (λ xs. lifted bs a xs) second n (lifted_texts a us p.0 n.names) (lifted_texts b vs p.1 v)
  lifted_texts (C.Cond e a b) vs h v =
      let p = and_parts (is_exp e) (is_command a && is_command b) h in
      let q = and_parts (is_command a) (is_command b) p.1 in
      let r = lifted_texts a vs q.0 v in
      let s = lifted_texts b vs q.1 v in
      with_two R.Cond (M.If e (lifted bs a vs).right (lifted bs b vs).right) (lifted bs a vs) (lifted bs b vs) refl
      (and_from _ _ p.0 (and_from _ _ r.program s.program)) (and_from _ _ r.few s.few) r s
  lifted_texts (C.Guard g a) vs h v =
      let p = and_parts (is_condition g) (is_command a) h in
      let r = lifted_texts a vs p.1 v in
      with_one R.Guard (M.Bind (M.Guard g.exp) [] (lifted bs a vs).right) (lifted bs a vs) refl
      (bound (M.Guard g.exp) [] (lifted bs a vs).right no_names p.0 r.program)
      (few_bound (M.Guard g.exp) [] (lifted bs a vs).right no_names refl r.few) r
  lifted_texts (C.While gs e a) vs h v =
      let p = and_parts (each is_condition gs) (is_exp e && is_command a) h in
      let q = and_parts (is_exp e) (is_command a) p.1 in
      let us = handed_on (names_of bs) gs e a (λ xs. (lifted bs a xs).right) vs in
      let n = what_is_handed_on gs e a (λ xs. (lifted bs a xs).right) vs in
      while_texts gs e vs us (λ xs. lifted bs a xs) p.0 q.0 v n (lifted_texts a us q.1 n.names)
  lifted_texts (C.Call (Some x) f es) vs h v =
      let p = and_parts (is_name x) (is_name f && each is_exp es) h in
      then_vars R.Call (M.Call f es) (x ∷ []) vs refl (one_name x p.0) v p.1 refl
  lifted_texts (C.Call None f es) vs h v = then_vars R.Void (M.Call f es) [] vs refl no_names v h refl
  lifted_texts C.Throw vs h v = alone R.Skip (M.Ret (vars vs)) refl (are_vars vs v) refl
  lifted_texts (C.Catch a b) vs h v = lifted_texts a vs (and_parts (is_command a) (is_command b) h).0 v

module _ (ctx : Context) (names : AreNames (names_of ctx.locals)) (kinds : are_kinds (kinds_of ctx.locals) ≡ true) where
  begun_texts : (xs : List Name) (inner : Lifted) → AreNames xs → HaveTexts inner → HaveTexts (begun ctx xs inner)
  begun_texts [] inner n h = h
  begun_texts (x ∷ xs) inner n h =
      let zs = zeros_there (zeros ctx.locals (x ∷ xs)) in
      with_one R.Start (M.Bind (M.Ret zs) (x ∷ xs) inner.right) inner refl
      (bound (M.Ret zs) (x ∷ xs) inner.right n (are_zeros ctx.locals kinds (x ∷ xs)) h.program)
      (few_bound (M.Ret zs) (x ∷ xs) inner.right n refl h.few) h

  pub locals_texts : (a : Simpl) (vs : List Name) → is_command a ≡ true → each is_name vs ≡ true →
      HaveTexts (locals_lifted ctx a vs)
  locals_texts a vs h v =
      let inner = lifted ctx.locals a vs in
      let test = λ (y : Name). is_free y inner.right && not (is_among y ctx.parameters) in
      begun_texts (chosen test (names_of ctx.locals)) inner (are_chosen test (names_of ctx.locals) names)
      (lifted_texts ctx.locals names kinds a vs h v)
