-- What a command in bytes form is lifted to is in bytes form.
use Rattle.std.proofs.Common.{◌≡◌, Bool, true, false, not, cond, ◌&&◌, ◌||◌, List, [], ◌∷◌, Option, Some, None, refl}
use Rattle.std.proofs.lemmas.Bool.{or_parts, or_from, not-true, not_from_false}
use Rattle.c_values.specs.Name.{Name, same_name, is_among}
use Rattle.expression_lang.specs.Expression.{Exp, Var}
use Rattle.expression_lang.specs.Form.{has, path_has, is_read}
use Rattle.expression_lang.specs.Sort.{Kind, WordKind}
use Rattle.expression_lang.specs.Signature.{Binder, names_of}
use Rattle.simpl_lang.specs.Command.{Condition, Simpl, Skip, Throw, Set, SetGlobal, Store, Pick, Seq, Cond, Guard, Catch, While, Call, kind_of}
use Rattle.monad_lang.specs.Program.{Mon}
use Rattle.monad_lang.specs.Form.{some_has, start_has, program_has, is_written, is_bytes}
use Rattle.monad_lang.specs.Names.{is_free}
use Rattle.rule_local.specs.Assigned.{assigns}
use Rattle.rule_local.specs.Rule.{Context}
use Rattle.rule_local.specs.CommandForm.{conditions_have, command_has, is_bytes_command}
use Rattle.rule_local.specs.Table.{vars, vars_with, as_starts, conj, zero_exp, zero_first, zeros}
use Rattle.rule_local.specs.Lifted.{Lifted, chosen, handed_on, set_lifted, lifted, zeros_there, begun, locals_lifted}

abbrev pub HasNone : Mon → Type 0
HasNone m = program_has is_read is_written m ≡ false

vars_none : (vs : List Name) → some_has is_read (vars vs) ≡ false
vars_none [] = refl
vars_none (v ∷ vs) = vars_none vs

starts_none : (us : List Name) → start_has is_read (as_starts us) ≡ false
starts_none [] = refl
starts_none (u ∷ us) = starts_none us

with_none : (x : Name) (e : Exp) (vs : List Name) → has is_read e ≡ false → some_has is_read (vars_with x e vs) ≡ false
with_none x e [] h = refl
with_none x e (v ∷ vs) h = or_from (has is_read (cond (same_name x v) e (Var v))) (some_has is_read (vars_with x e vs)) (one (same_name x v)) (with_none x e vs h)
  where
    one : (b : Bool) → has is_read (cond b e (Var v)) ≡ false
    one true = h
    one false = refl

conj_none : (gs : List Condition) → conditions_have is_read gs ≡ false → has is_read (conj gs) ≡ false
conj_none [] h = refl
conj_none (g ∷ []) h = (or_parts (has is_read g.exp) false h).0
conj_none (g ∷ d ∷ gs) h =
    let p = or_parts (has is_read g.exp) (conditions_have is_read (d ∷ gs)) h in or_from (has is_read g.exp) (has is_read (conj (d ∷ gs))) p.0 (conj_none (d ∷ gs) p.1)

zero_none : (k : Kind) → has is_read (zero_exp k) ≡ false
zero_none (WordKind n) = refl
zero_none _ = refl

zeros_none : (bs : List Binder) (xs : List Name) → some_has is_read (zeros_there (zeros bs xs)) ≡ false
zeros_none bs [] = refl
zeros_none bs (x ∷ xs) = first (kind_of bs x) (zeros bs xs) (zeros_none bs xs)
  where
    first : (o : Option Kind) (r : Option (List Exp)) → some_has is_read (zeros_there r) ≡ false → some_has is_read (zeros_there (zero_first o r)) ≡ false
    first (Some k) (Some es) h = or_from (has is_read (zero_exp k)) (some_has is_read es) (zero_none k) h
    first _ _ _ = refl

set_none : (x : Name) (e : Exp) (vs : List Name) (b : Bool) → has is_read e ≡ false → HasNone (set_lifted b x e vs).right
set_none x e vs true h = with_none x e vs h
set_none x e vs false h = vars_none vs

pub lifted_none : (bs : List Binder) (a : Simpl) (vs : List Name) → command_has is_read a ≡ false → HasNone (lifted bs a vs).right
lifted_none bs Skip vs h = vars_none vs
lifted_none bs Throw vs h = vars_none vs
lifted_none bs (Set x e) vs h = set_none x e vs (is_among x vs) h
lifted_none bs (SetGlobal x path e) vs h = or_from (path_has is_read path || has is_read e) (some_has is_read (vars vs)) h (vars_none vs)
lifted_none bs (Store t p path e) vs h = or_from (has is_read p || path_has is_read path || has is_read e) (some_has is_read (vars vs)) h (vars_none vs)
lifted_none bs (Pick x) vs h = vars_none vs
lifted_none bs (Seq a b) vs h =
    let p = or_parts (command_has is_read a) (command_has is_read b) h in
    let second = (lifted bs b vs).right in
    let first = (lifted bs a (chosen (λ y. assigns y a && is_free y second) (names_of bs))).right in
    or_from (program_has is_read is_written first) (program_has is_read is_written second) (lifted_none bs a _ p.0) (lifted_none bs b vs p.1)
lifted_none bs (Cond e a b) vs h =
    let p = or_parts (has is_read e || command_has is_read a) (command_has is_read b) h in
    let q = or_parts (has is_read e) (command_has is_read a) p.0 in
    or_from (has is_read e || program_has is_read is_written (lifted bs a vs).right) (program_has is_read is_written (lifted bs b vs).right)
    (or_from (has is_read e) (program_has is_read is_written (lifted bs a vs).right) q.0 (lifted_none bs a vs q.1)) (lifted_none bs b vs p.1)
lifted_none bs (Guard c a) vs h =
    let p = or_parts (has is_read c.exp) (command_has is_read a) h in or_from (has is_read c.exp) (program_has is_read is_written (lifted bs a vs).right) p.0 (lifted_none bs a vs p.1)
lifted_none bs (Catch a b) vs h = lifted_none bs a vs (or_parts (command_has is_read a) (command_has is_read b) h).0
lifted_none bs (While cs e a) vs h =
    let p = or_parts (conditions_have is_read cs || has is_read e) (command_has is_read a) h in
    let q = or_parts (conditions_have is_read cs) (has is_read e) p.0 in
    let us = handed_on (names_of bs) cs e a (λ ws. (lifted bs a ws).right) vs in
    let m = (lifted bs a us).right in
    or_from (start_has is_read (as_starts us) || has is_read (conj cs) || has is_read e || program_has is_read is_written m) (some_has is_read (vars vs))
    (or_from (start_has is_read (as_starts us) || has is_read (conj cs) || has is_read e) (program_has is_read is_written m)
    (or_from (start_has is_read (as_starts us) || has is_read (conj cs)) (has is_read e)
    (or_from (start_has is_read (as_starts us)) (has is_read (conj cs)) (starts_none us) (conj_none cs q.0)) q.1)
    (lifted_none bs a us p.1)) (vars_none vs)
lifted_none bs (Call (Some x) f es) vs h = or_from (some_has is_read es) (some_has is_read (vars vs)) h (vars_none vs)
lifted_none bs (Call None f es) vs h = or_from (some_has is_read es) (some_has is_read (vars vs)) h (vars_none vs)

begun_none : (ctx : Context) (xs : List Name) (inner : Lifted) → HasNone inner.right → HasNone (begun ctx xs inner).right
begun_none ctx [] inner h = h
begun_none ctx (x ∷ xs) inner h = or_from (some_has is_read (zeros_there (zeros ctx.locals (x ∷ xs)))) (program_has is_read is_written inner.right) (zeros_none ctx.locals (x ∷ xs)) h

pub locals_lifted_bytes : (ctx : Context) (a : Simpl) (vs : List Name) → is_bytes_command a ≡ true → is_bytes (locals_lifted ctx a vs).right ≡ true
locals_lifted_bytes ctx a vs h =
    not_from_false (program_has is_read is_written (locals_lifted ctx a vs).right)
    (begun_none ctx (chosen (λ y. is_free y (lifted ctx.locals a vs).right && not (is_among y ctx.parameters)) (names_of ctx.locals)) (lifted ctx.locals a vs)
    (lifted_none ctx.locals a vs (not-true (command_has is_read a) h)))
