-- What an accepted tree's right side is to its left side, over functions of two units that keep what the phase keeps.
use Rattle.std.proofs.Common.{◌≡◌, Bool, true, false, List, [], ◌∷◌, map, Option, Some, refl, sym, ap, ap₂, ◌∙◌, subst}
use Rattle.std.proofs.lemmas.Bool.{not-true}
use Rattle.correspondence.specs.Outcome.{Ends}
use Rattle.correspondence.specs.Corresponds.{Corresponds, After, Paired}
use Rattle.correspondence.specs.Related.{Same, BothFail}
use Rattle.correspondence.proofs.Corresponds.{there, back, both, turned, corresponds_weaker, corresponds_after}
use Rattle.correspondence.proofs.Turning.{Reached, reached}
use Rattle.c_values.specs.Name.{Name}
use Rattle.c_values.specs.Value.{Value}
use Rattle.c_values.specs.Choice.{Choice}
use Rattle.c_values.specs.Layout.{Layout, IsLayout}
use Rattle.c_memory.specs.Memory.{Memory}
use Rattle.c_memory.specs.TypedHeap.{view}
use Rattle.c_memory.specs.Footprint.{KeepsMemory}
use Rattle.c_memory.specs.Heap.{Heap, OnBytes, OnTypes, IsHeap}
use Rattle.expression_lang.specs.Evaluation.{State}
use Rattle.expression_lang.specs.Sort.{Level, Scalar, is_lifted, sort_of_kind}
use Rattle.expression_lang.specs.Signature.{Signature, Invocation}
use Rattle.expression_lang.specs.States.{IsState, state_with}
use Rattle.ac_expr.specs.Fact.{Fact, AllSay}
use Rattle.monad_lang.specs.Program.{Mon, FinalUnit}
use Rattle.monad_lang.specs.Form.{program_has, is_bytes, is_written}
use Rattle.expression_lang.specs.Form.{is_read}
use Rattle.monad_lang.specs.Run.{Answer, Runs, functions_below}
use Rattle.monad_lang.specs.Sorted.{signature_of, scalars_given, IsWellFormed}
use Rattle.monad_lang.specs.Steady.{Viewed, Alike}
use Rattle.c_memory.specs.LevelHeap.{heap_for}
use Rattle.program_facts.specs.Lasting.{FunctionLasts, AllLast, AllKeepTags, setting_in}
use Rattle.program_facts.proofs.KeepsTags.{units_keep_tags}
use Rattle.program_facts.proofs.RunsLast.{formed_units_last}
use Rattle.rule_trees.specs.RuleTree.{Tree}
use Rattle.rule_heap.specs.Rule.{Rule}
use Rattle.rule_heap.specs.Table.{Takes}
use Rattle.monad_lang.specs.Calls.{calls_only}
use Rattle.rule_heap.specs.Kept.{AnswersOnItsHeap, HeapsKept}
use Rattle.rule_heap.specs.Exact.{AnswersViewed, Place, left_runs, right_runs, CanBe, StandsFor}
use Rattle.rule_heap.proofs.Alike.{AreAlike}
use Rattle.rule_heap.proofs.Viewed.{IsSame, same_alike, heap_placed, IsViewed, viewed_alike, keeps_itself, keeps_on}
use Rattle.rule_heap.proofs.Sound.{AlikeAnswers, AreFunctions, DoSame, takes_sound}
use Rattle.rule_heap.proofs.WritesCovered.{AreCovered, takes_covers}

abbrev pub answer : List Value → State → Answer
answer vs s = record { values = vs; state = s }

-- the other way round
turned_round : {A B F G : Type 0} (answers : A → B → Type 0) (faults : F → G → Type 0) (p : Ends A F) (q : Ends B G) → Corresponds answers faults p q → Corresponds (turned answers) (turned faults) q p
turned_round answers faults p q c = both (back c) (there c)

pub call_is : (c c' : Invocation) → c'.name ≡ c.name → c'.arguments ≡ c.arguments → c'.state ≡ c.state → c' ≡ c
call_is c c' n a s =
    let call : Name → List Value → State → Invocation = λ x vs s. record { name = x; arguments = vs; state = s } in
    ap (λ x. call x c'.arguments c'.state) n ∙ ap₂ (λ vs s. call c.name vs s) a s

pub lifted_heap : (l : Layout) (b : Bool) (m : Memory) → b ≡ true → heap_for l b m ≡ OnTypes (view l m)
lifted_heap l b m h = ap (λ c. heap_for l c m) h

pub same_bytes : (m n : Memory) → ◌≡◌ {A = Heap} (OnBytes m) (OnBytes n) → m ≡ n
same_bytes m n h = cc

module _ (u : FinalUnit) (levels : Name → Level) (laid : IsLayout u.layout) (p : Choice) where
  abbrev sigs : List Signature
  sigs = map signature_of u.functions

  abbrev lifts : Name → Bool
  lifts x = is_lifted (levels x)

  abbrev lasts : Runs → Type 0
  lasts f = FunctionLasts u.layout u.globals sort_of_kind sigs f

  module _ (start : Memory) where
    abbrev Near : State → State → Type 0
    Near = IsViewed u.layout start

    abbrev near_laws : AreAlike u.layout Near
    near_laws = viewed_alike u.layout laid start

    views_same : (f g : Runs) → HeapsKept u levels f g → lasts f → DoSame u.layout laid p u.globals sigs lifts Near near_laws f g
    views_same f g h last depth c c' k =
        corresponds_weaker (Reached (AnswersOnItsHeap u.layout levels c) (f depth c) (g depth c')) (AlikeAnswers u.layout laid p u.globals sigs lifts Near near_laws) BothFail BothFail (f depth c) (g depth c') answers (λ i j t. t)
        (reached (AnswersOnItsHeap u.layout levels c) BothFail (f depth c) (g depth c')
        (h.on_its_heap depth c c'
        (record {
          memory = k.near.memory;
          call = record { function = k.sorted.0; found = k.sorted.1; sorted = k.sorted.2; state = k.state };
          bytes = k.near.bytes;
          heap = k.near.types ∙ sym (lifted_heap u.layout (lifts c.name) k.near.memory k.may_be);
          name = k.name;
          arguments = k.arguments;
          globals = k.near.globals;
        })))
      where
        answers : (a b : Answer) → Reached (AnswersOnItsHeap u.layout levels c) (f depth c) (g depth c') a b → AlikeAnswers u.layout laid p u.globals sigs lifts Near near_laws a b
        answers a b r =
            let e = last depth c k.sorted.0 k.sorted.1 k.sorted.2 k.state a r.left in
            let began : r.related.before ≡ k.near.memory = same_bytes r.related.before k.near.memory (sym r.related.began ∙ k.near.bytes) in
            let keeps : KeepsMemory u.layout true k.near.memory r.related.after = subst (λ m. KeepsMemory u.layout true m r.related.after) began (subst (λ t. KeepsMemory u.layout t r.related.before r.related.after) k.may_be r.related.keeps) in
            record {
              values = r.related.values;
              near = record {
                memory = r.related.after;
                tagged = subst (λ x. IsHeap u.layout x) r.related.bytes e.state.heap;
                bytes = r.related.bytes;
                types = r.related.heap ∙ lifted_heap u.layout (lifts c.name) r.related.after k.may_be;
                globals = r.related.globals;
                keeps = keeps_on u.layout start k.near.memory r.related.after k.near.keeps keeps;
              };
            }

    pub views_all : (fs gs : List Runs) → Paired (HeapsKept u levels) fs gs → AllLast u.layout u.globals sort_of_kind sigs fs → AllKeepTags gs →
        Paired (AreFunctions u.layout laid p u.globals sigs lifts Near near_laws) fs gs
    views_all [] [] h k t = tt
    views_all (f ∷ fs) (g ∷ gs) h k t = (record { same = views_same f g h.0 k.0; last = k.0; tags = t.0 }, views_all fs gs h.1 k.1 t.1)
    views_all [] (g ∷ gs) h k t = absurd h
    views_all (f ∷ fs) [] h k t = absurd h

  module _ (callable : Name → Bool) where
    abbrev Like : State → State → Type 0
    Like = IsSame u.layout

    abbrev like_laws : AreAlike u.layout Like
    like_laws = same_alike u.layout

    alike_same : (f g : Runs) → HeapsKept u levels f g → lasts f → DoSame u.layout laid p u.globals sigs callable Like like_laws f g
    alike_same f g h last depth c c' k =
        corresponds_weaker (Reached Same (f depth c) (g depth c')) (AlikeAnswers u.layout laid p u.globals sigs callable Like like_laws) BothFail BothFail (f depth c) (g depth c') answers (λ i j t. t)
        (reached Same BothFail (f depth c) (g depth c')
        (h.on_one_heap depth c c'
        (record { same = call_is c c' k.name k.arguments k.near.same; call = record { function = k.sorted.0; found = k.sorted.1; sorted = k.sorted.2; state = k.state } })))
      where
        answers : (a b : Answer) → Reached Same (f depth c) (g depth c') a b → AlikeAnswers u.layout laid p u.globals sigs callable Like like_laws a b
        answers a b r =
            let e = last depth c k.sorted.0 k.sorted.1 k.sorted.2 k.state a r.left in
            record { values = ap (λ x. x.values) r.related; near = record { same = ap (λ x. x.state) r.related; placed = heap_placed u.layout a.state.heap e.state.heap } }

    pub same_all : (fs gs : List Runs) → Paired (HeapsKept u levels) fs gs → AllLast u.layout u.globals sort_of_kind sigs fs → AllKeepTags gs →
        Paired (AreFunctions u.layout laid p u.globals sigs callable Like like_laws) fs gs
    same_all [] [] h k t = tt
    same_all (f ∷ fs) (g ∷ gs) h k t = (record { same = alike_same f g h.0 k.0; last = k.0; tags = t.0 }, same_all fs gs h.1 k.1 t.1)
    same_all [] (g ∷ gs) h k t = absurd h
    same_all (f ∷ fs) [] h k t = absurd h

module _ (u : FinalUnit) (levels : Name → Level) (formed : IsWellFormed u) (fs : List Fact) (names : Name → Option Scalar) (cs : List Scalar) (t : Tree Rule) (left right : Mon) (takes : Takes u.layout fs t left right)
    (bytes : is_bytes left ≡ true) (sorted : scalars_given (setting_in sort_of_kind u names) left ≡ Some cs) (calls : calls_only (λ x. is_lifted (levels x)) left ≡ true) where
  no_reads : program_has is_read is_written left ≡ false
  no_reads = not-true (program_has is_read is_written left) bytes

  on_types : (b : Place u levels names) (memory : Memory) (globals : Name → Value) → CanBe u memory globals → AllSay u.layout b.environment (state_with (OnTypes (view u.layout memory)) globals) fs →
      Corresponds (AnswersViewed u.layout memory) BothFail (left_runs b left (state_with (OnBytes memory) globals)) (right_runs b right (state_with (OnTypes (view u.layout memory)) globals))
  on_types b memory globals can said =
      let last = (formed_units_last u formed).below b.choice b.turns in
      let laws = viewed_alike u.layout formed.layout memory in
      let from = state_with (OnBytes memory) globals in
      let to = state_with (OnTypes (view u.layout memory)) globals in
      corresponds_weaker (AlikeAnswers u.layout formed.layout b.choice u.globals (map signature_of u.functions) (λ x. is_lifted (levels x)) (IsViewed u.layout memory) laws) (AnswersViewed u.layout memory) BothFail BothFail
      (left_runs b left from) (right_runs b right to)
      (λ x y h. record { after = h.near.memory; bytes = h.near.bytes; types = h.near.types; values = h.values; globals = h.near.globals; keeps = h.near.keeps }) (λ i j h. h)
      (takes_sound u.layout formed.layout b.choice u.globals (map signature_of u.functions) (λ x. is_lifted (levels x)) (IsViewed u.layout memory) laws fs t left right takes no_reads names cs sorted calls b.environment b.depth
      (functions_below u b.choice b.turns) (functions_below b.target b.choice b.turns) from to
      (record {
        functions = views_all u levels formed.layout b.choice memory (functions_below u b.choice b.turns) (functions_below b.target b.choice b.turns) b.below last (units_keep_tags b.target b.choice b.turns);
        environment = b.sorted;
        state = can;
        near = record { memory = memory; tagged = can.heap; bytes = refl; types = refl; globals = refl; keeps = keeps_itself u.layout memory };
        said = said;
      }))

  on_one_heap : (b : Place u levels names) (s : State) → IsState u.layout u.globals s → AllSay u.layout b.environment s fs → Corresponds Same BothFail (left_runs b left s) (right_runs b right s)
  on_one_heap b s can said =
      let last = (formed_units_last u formed).below b.choice b.turns in
      let laws = same_alike u.layout in
      corresponds_weaker (AlikeAnswers u.layout formed.layout b.choice u.globals (map signature_of u.functions) (λ x. is_lifted (levels x)) (IsSame u.layout) laws) Same BothFail BothFail (left_runs b left s) (right_runs b right s)
      (λ x y h. ap₂ (λ vs s. answer vs s) h.values h.near.same) (λ i j h. h)
      (takes_sound u.layout formed.layout b.choice u.globals (map signature_of u.functions) (λ x. is_lifted (levels x)) (IsSame u.layout) laws fs t left right takes no_reads names cs sorted calls b.environment b.depth
      (functions_below u b.choice b.turns) (functions_below b.target b.choice b.turns) s s
      (record {
        functions = same_all u levels formed.layout b.choice (λ x. is_lifted (levels x)) (functions_below u b.choice b.turns) (functions_below b.target b.choice b.turns) b.below last (units_keep_tags b.target b.choice b.turns);
        environment = b.sorted;
        state = can;
        near = record { same = refl; placed = heap_placed u.layout s.heap can.heap };
        said = said;
      }))

  pub taken_stands : StandsFor u levels fs names left right
  taken_stands = record {
    on_types = on_types;
    on_one_heap = on_one_heap;
    steady = λ b memory globals can said said'.
        let covered : (s : State) → AllSay u.layout b.environment s fs → AreCovered u.layout b.choice right b.environment b.depth (functions_below b.target b.choice b.turns) s = λ s h. takes_covers u.layout b.choice fs t left right takes no_reads b.environment b.depth (functions_below b.target b.choice b.turns) s (units_keep_tags b.target b.choice b.turns) h in
        record { covered_on_bytes = covered (state_with (OnBytes memory) globals) said'; covered_on_types = covered (state_with (OnTypes (view u.layout memory)) globals) said; alike = alike b memory globals can said said' };
  }
    where
      viewed : (l : Layout) (m : Memory) (x y z : Answer) → x ≡ y → AnswersViewed l m y z → Viewed l x z
      viewed l m x y z e h = record { memory = h.after; values = ap (λ a. a.values) e ∙ sym h.values; bytes = ap (λ a. a.state.heap) e ∙ h.bytes; types = h.types; globals = ap (λ a. a.state.globals) e ∙ sym h.globals }

      alike : (b : Place u levels names) (memory : Memory) (globals : Name → Value) → CanBe u memory globals → AllSay u.layout b.environment (state_with (OnTypes (view u.layout memory)) globals) fs →
          AllSay u.layout b.environment (state_with (OnBytes memory) globals) fs →
          Corresponds (Viewed u.layout) Alike (right_runs b right (state_with (OnBytes memory) globals)) (right_runs b right (state_with (OnTypes (view u.layout memory)) globals))
      alike b memory globals can said said' =
          let q = left_runs b left (state_with (OnBytes memory) globals) in
          let r = right_runs b right (state_with (OnBytes memory) globals) in
          let z = right_runs b right (state_with (OnTypes (view u.layout memory)) globals) in
          corresponds_weaker (After (turned Same) (AnswersViewed u.layout memory)) (Viewed u.layout) (After (turned BothFail) BothFail) Alike r z (λ x y h. viewed u.layout memory x h.0 y h.1 h.2) (λ i j h. tt)
          (corresponds_after (turned Same) (AnswersViewed u.layout memory) (turned BothFail) BothFail r q z
          (turned_round Same BothFail q r (on_one_heap b (state_with (OnBytes memory) globals) can said')) (on_types b memory globals can said))
