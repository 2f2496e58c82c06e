-- A command that exceptions were taken out of has a text where the command had one, and so has the tree of rules that leads there.
use Rattle.std.proofs.Common.{◌≡◌, Bool, true, false, ◌&&◌, List, [], ◌∷◌, refl}
use Rattle.std.proofs.lemmas.Bool.{and_parts, and_from}
use Rattle.expression_lang.specs.Expression.{Exp, And, Imp, Not}
use Rattle.expression_text.specs.ExpText.{is_exp}
use Rattle.expression_text.specs.Lists.{each}
use Rattle.simpl_lang.specs.Command.{Condition, Simpl, Skip, Throw, Set, SetGlobal, Store, Pick, Seq, Cond, Guard, Catch, While, Call}
use Rattle.command_text.specs.CommandText.{is_command, is_condition}
use Rattle.rule_exn.specs.Rule as R
use Rattle.rule_exn.specs.Rule.{Rule}
use Rattle.rule_exn.specs.Quiet.{quiet}
use Rattle.rule_exn.specs.Table.{is_thrown, raised, cleared, unless_thrown}
use Rattle.rule_exn.specs.Eliminated.{Eliminated, leaf, over_one, over_two, exceptions_eliminated, in_sequence, caught, repeated}
use Rattle.rule_text.specs.Arities.{fits}
use Rattle.rule_text.specs.ExceptionText.{arity, is_tree}

pub record HaveTexts (a : Eliminated) : Type 0 where
  pub program : is_command a.right ≡ true
  pub rules : is_tree a.tree ≡ true

alone : (rule : Rule) (c : Simpl) → fits (arity rule) 0 ≡ true → is_command c ≡ true → HaveTexts (leaf rule c)
alone rule c f h = record { program = h; rules = and_from _ _ (and_from _ _ f refl) refl }

with_one : (rule : Rule) (c : Simpl) (a : Eliminated) → fits (arity rule) 1 ≡ true → is_command c ≡ true → HaveTexts a →
    HaveTexts (over_one rule c a)
with_one rule c a f h k = record { program = h; rules = and_from _ _ (and_from _ _ f refl) (and_from _ _ k.rules refl) }

with_two : (rule : Rule) (c : Simpl) (a b : Eliminated) → fits (arity rule) 2 ≡ true → is_command c ≡ true → HaveTexts a →
    HaveTexts b → HaveTexts (over_two rule c a b)
with_two rule c a b f h k l = record {
  program = h;
  rules = and_from _ _ (and_from _ _ f refl) (and_from _ _ k.rules (and_from _ _ l.rules refl));
}

unless_texts : (cs : List Condition) → each is_condition cs ≡ true → each is_condition (unless_thrown cs) ≡ true
unless_texts [] h = refl
unless_texts (c ∷ cs) h =
    let p = and_parts (is_condition c) (each is_condition cs) h in
    and_from (is_exp (Imp (Not is_thrown) c.exp)) (each is_condition (unless_thrown cs)) p.0 (unless_texts cs p.1)

in_texts : (q : Bool) (a b : Eliminated) → HaveTexts a → HaveTexts b → HaveTexts (in_sequence q a b)
in_texts true a b h k = with_two R.SeqPlain (Seq a.right b.right) a b refl (and_from _ _ h.program k.program) h k
in_texts false a b h k =
    with_two R.SeqTest (Seq a.right (Cond is_thrown Skip b.right)) a b refl (and_from _ _ h.program k.program) h k

caught_texts : (q : Bool) (handler : Simpl) (a b : Eliminated) → HaveTexts a → HaveTexts b → HaveTexts (caught q handler a b)
caught_texts true handler a b h k = with_one R.CatchPlain a.right a refl h.program h
caught_texts false Skip a b h k = with_one R.CatchSkip (Seq a.right cleared) a refl (and_from _ _ h.program refl) h
caught_texts false handler a b h k =
    with_two R.CatchTest (Seq a.right (Cond is_thrown (Seq cleared b.right) Skip)) a b refl
    (and_from _ _ h.program (and_from _ _ k.program refl)) h k

repeated_texts : (q : Bool) (cs : List Condition) (e : Exp) (a : Eliminated) → each is_condition cs ≡ true → is_exp e ≡ true →
    HaveTexts a → HaveTexts (repeated q cs e a)
repeated_texts true cs e a h k l =
    with_one R.WhilePlain (While cs e a.right) a refl (and_from _ _ h (and_from _ _ k l.program)) l
repeated_texts false cs e a h k l =
    with_one R.WhileTest (While (unless_thrown cs) (And (Not is_thrown) e) a.right) a refl
    (and_from _ _ (unless_texts cs h) (and_from _ _ k l.program)) l

pub eliminated_texts : (a : Simpl) → is_command a ≡ true → HaveTexts (exceptions_eliminated a)
eliminated_texts Skip h = alone R.Skip Skip refl refl
eliminated_texts Throw h = alone R.Throw raised refl refl
eliminated_texts (Set x e) h = alone R.Set (Set x e) refl h
eliminated_texts (SetGlobal x path e) h = alone R.Set (SetGlobal x path e) refl h
eliminated_texts (Store t p path e) h = alone R.Set (Store t p path e) refl h
eliminated_texts (Pick x) h = alone R.Pick (Pick x) refl h
eliminated_texts (Call x f es) h = alone R.Call (Call x f es) refl h
eliminated_texts (Seq a b) h =
    let p = and_parts (is_command a) (is_command b) h in
    in_texts (quiet a) _ _ (eliminated_texts a p.0) (eliminated_texts b p.1)
eliminated_texts (Cond e a b) h =
    let p = and_parts (is_exp e) (is_command a && is_command b) h in
    let q = and_parts (is_command a) (is_command b) p.1 in
    let r = eliminated_texts a q.0 in
    let s = eliminated_texts b q.1 in
    with_two R.Cond _ _ _ refl (and_from _ _ p.0 (and_from _ _ r.program s.program)) r s
eliminated_texts (Guard c a) h =
    let p = and_parts (is_condition c) (is_command a) h in
    let r = eliminated_texts a p.1 in
    with_one R.Guard (Guard c (exceptions_eliminated a).right) (exceptions_eliminated a) refl (and_from _ _ p.0 r.program) r
eliminated_texts (Catch a b) h =
    let p = and_parts (is_command a) (is_command b) h in
    caught_texts (quiet a) b _ _ (eliminated_texts a p.0) (eliminated_texts b p.1)
eliminated_texts (While cs e a) h =
    let p = and_parts (each is_condition cs) (is_exp e && is_command a) h in
    let q = and_parts (is_exp e) (is_command a) p.1 in
    repeated_texts (quiet a) cs e _ p.0 q.0 (eliminated_texts a q.1)
