-- The place of a verdict is about some part.
use Rattle.std.proofs.Common.{◌≡◌, ◌<◌, ℕ, Bool, true, false, ◌&&◌, [], Option, Some, None, Result, Err, inl, inr, refl, sym, subst, arith}
use Rattle.expression_lang.specs.Sort.{is_lifted, sort_of_kind}
use Rattle.expression_lang.specs.Signature.{Signature, names_of, kinds_of}
use Rattle.simpl_lang.specs.Command.{Simpl, SimplFn, SimplUnit}
use Rattle.simpl_lang.specs.Form.{is_flat}
use Rattle.monad_lang.specs.Program.{Mon}
use Rattle.monad_lang.specs.Form.{is_bytes, is_heaps}
use Rattle.rule_trees.specs.RuleTree.{Tree, node, Table, IsVerdict, last_number}
use Rattle.rule_exn.specs.Rule.{◌to◌}
use Rattle.rule_exn.specs.Table as Exceptions
use Rattle.rule_local.specs.Rule.{whole}
use Rattle.rule_local.specs.Table as Locals
use Rattle.rule_local.specs.Units.{context_of, outputs_of}
use Rattle.rule_heap.specs.Rule as H
use Rattle.rule_heap.specs.Table as Heaps
use Rattle.rule_word.specs.Rule as W
use Rattle.rule_word.specs.Table as Words
use Rattle.rule_word.specs.Ready.{is_form_of}
use Rattle.rule_word.specs.Scopes.{with_kinds, result_as_list}
use Rattle.rule_eq.specs.Rule.{does}
use Rattle.rule_eq.specs.Table as Equality
use Rattle.rule_eq.specs.Table.{point}
use Rattle.monad_lang.specs.Sorted.{setting_signed}
use Rattle.acceptance.specs.Accepted.{is_command, is_on_words, is_on_numbers, word_context}
use Rattle.acceptance.specs.Certificate.{Step, Steps, before_words}
use Rattle.acceptance.specs.Verdict as V
use Rattle.acceptance.specs.Verdict.{Place, ◌at◌, IsFormed, IsExceptionVerdict, IsLocalVerdict, IsHeapVerdict, IsWordVerdict, IsEqualVerdict, IsFunctionVerdict}
use Rattle.refused_parts.specs.About.{IsAbout}
use Rattle.refused_parts.specs.Lefts.{exception_left, local_left, heap_left, word_left, equal_left}
use Rattle.refused_parts.specs.Parts.{Part, Command, Program, IsOfHeaps, IsPartOf, IsPartAt}
use Rattle.refused_parts.proofs.Existence.{some_part}

number_is : {m n : ℕ} → ◌≡◌ {A = Result (Unit {0}) ℕ} (Err m) (Err n) → n ≡ m
number_is h = cc

at_root : {Rule Claim P : Type 0} (table : Table Rule Claim) (left : Claim → Option P) (t : Tree Rule) (c : Claim) (p : P) → IsAbout table left t c p 0 p
at_root table left (node r ts) c p = refl

-- a step with a number is about a part there
record HasPart {P : Type 0} (About : ℕ → P → Type 0) (n : ℕ) : Type 0 where
  part : P
  about : About n part

of_step : {Rule Claim P : Type 0} (table : Table Rule Claim) (left : Claim → Option P) (formed : Bool) (t : Tree Rule) (c : Claim) (p : P) (n : ℕ) → IsFormed formed (IsVerdict table t c) (Err n) → n < last_number → HasPart (IsAbout table left t c p) n
of_step table left true t c p n h l =
    let k = some_part table left t c p 0 n h l in
    let e : k.number ≡ n = let s = k.counted in omega arith in
    record { part = k.part; about = subst (λ m. IsAbout table left t c p m k.part) e k.about }
of_step table left false t c p n h l =
    let e : 0 ≡ n = number_is h in
    record { part = p; about = subst (λ m. IsAbout table left t c p m p) e (at_root table left t c p) }

is_place : {x y : Place} → ◌≡◌ {A = Result (Unit {0}) Place} (Err x) (Err y) → y ≡ x
is_place h = cc

as_command : {About : ℕ → Simpl → Type 0} (Is : ℕ → Part → Type 0) (n : ℕ) → ((q : Simpl) → About n q → Is n (Command q)) → HasPart About n → HasPart Is n
as_command Is n as_is h = record { part = Command h.part; about = as_is h.part h.about }

as_program : {About : ℕ → Mon → Type 0} (Is : ℕ → Part → Type 0) (n : ℕ) → ((q : Mon) → About n q → Is n (Program q)) → HasPart About n → HasPart Is n
as_program Is n as_is h = record { part = Program h.part; about = as_is h.part h.about }

module _ (u : SimplUnit) (f : SimplFn) (s : Signature) (c : Steps) where
  of_heaps : (heap : Option (Step Mon H.Rule)) (lifted : Bool) (n : ℕ) → IsHeapVerdict u s c.local.program lifted heap (Err n) → n < last_number → HasPart (IsOfHeaps u f s c heap) n
  of_heaps None lifted n h l = record { part = c.local.program; about = refl }
  of_heaps (Some step) true n h l =
      of_step (Heaps.table u.layout) heap_left (is_on_words u s step.program && is_heaps step.program) step.tree (H.OfProgram [] c.local.program step.program) c.local.program n h l
  of_heaps (Some step) false n h l =
      let e : 0 ≡ n = number_is h in
      record {
        part = c.local.program;
        about = subst (λ m. IsOfHeaps u f s c (Some step) m c.local.program) e (at_root (Heaps.table u.layout) heap_left step.tree (H.OfProgram [] c.local.program step.program) c.local.program);
      }

  -- a place is about some part
  pub record HasPartAt (place : Place) : Type 0 where
    pub part : Part
    pub about : IsPartAt u f s c place part

  abbrev Has : V.Phase → ℕ → Type 0
  Has phase n = HasPart (IsPartOf u f s c phase) n

  at_place : (phase : V.Phase) (n : ℕ) (place : Place) → ◌≡◌ {A = Result (Unit {0}) Place} (Err place) (Err (phase at n)) → Has phase n → HasPartAt place
  at_place phase n place e h = subst HasPartAt (is_place e) (record { part = h.part; about = h.about })

  below : (phase : V.Phase) (n : ℕ) (place : Place) → ◌≡◌ {A = Result (Unit {0}) Place} (Err place) (Err (phase at n)) → place.node < last_number → n < last_number
  below phase n place e l = subst (λ p. p.node < last_number) (sym (is_place e)) l

  of_exceptions : (n : ℕ) → IsExceptionVerdict u f c (Err n) → n < last_number → Has V.Exception n
  of_exceptions n h l =
      as_command (IsPartOf u f s c V.Exception) n (λ q a. a)
      (of_step Exceptions.table exception_left (is_command u f c.exception.program && is_flat c.exception.program) c.exception.tree (f.body to c.exception.program) f.body n h l)

  of_locals : (n : ℕ) → IsLocalVerdict u f s c (Err n) → n < last_number → Has V.Local n
  of_locals n h l =
      let left = c.exception.program in
      as_command (IsPartOf u f s c V.Local) n (λ q a. a)
      (of_step (Locals.table (context_of f s)) local_left (is_on_words u s c.local.program && is_bytes c.local.program) c.local.tree (whole left c.local.program (outputs_of s.result)) left n h l)

  of_words : (n : ℕ) → IsWordVerdict u s c (Err n) → n < last_number → Has V.Word n
  of_words n h l =
      let left = before_words c in
      let start : W.Point = record { facts = []; names = with_kinds (names_of s.params) (kinds_of s.params) [] } in
      as_program (IsPartOf u f s c V.Word) n (λ q a. a)
      (of_step (Words.table (word_context u)) word_left (is_on_numbers u s c.word.program && is_form_of c.level c.word.program) c.word.tree (W.program start left c.word.program (result_as_list s.result)) left n h l)

  of_equality : (n : ℕ) → IsEqualVerdict u s c (Err n) → n < last_number → Has V.Equal n
  of_equality n h l =
      let left = c.word.program in
      let start = point [] (setting_signed sort_of_kind u.layout u.globals u.signatures s) in
      as_program (IsPartOf u f s c V.Equal) n (λ q a. a)
      (of_step Equality.table equal_left (is_on_numbers u s c.equal.program && is_form_of c.level c.equal.program) c.equal.tree (does start left c.equal.program) left n h l)

  pub part_at_verdict : (place : Place) → IsFunctionVerdict u f s c (Err place) → place.node < last_number → HasPartAt place
  part_at_verdict place (inl h) l = at_place V.Level h.0 place h.2 (record { part = Command f.body; about = refl })
  part_at_verdict place (inr (a, inl h)) l = at_place V.Exception h.0 place h.2 (of_exceptions h.0 h.1 (below V.Exception h.0 place h.2 l))
  part_at_verdict place (inr (a, inr (b, inl h))) l = at_place V.Local h.0 place h.2 (of_locals h.0 h.1 (below V.Local h.0 place h.2 l))
  part_at_verdict place (inr (a, inr (b, inr (d, inl h)))) l =
      at_place V.Heap h.0 place h.2 (as_program (IsPartOf u f s c V.Heap) h.0 (λ q x. x) (of_heaps c.heap (is_lifted c.level) h.0 h.1 (below V.Heap h.0 place h.2 l)))
  part_at_verdict place (inr (a, inr (b, inr (d, inr (e, inl h))))) l = at_place V.Word h.0 place h.2 (of_words h.0 h.1 (below V.Word h.0 place h.2 l))
  part_at_verdict place (inr (a, inr (b, inr (d, inr (e, inr (g, inl h)))))) l = at_place V.Equal h.0 place h.2 (of_equality h.0 h.1 (below V.Equal h.0 place h.2 l))
  part_at_verdict place (inr (a, inr (b, inr (d, inr (e, inr (g, inr (i, h))))))) l = absurd cc
