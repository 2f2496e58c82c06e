-- What an accepted tree gives of two expressions, and of two programs alone.
use Rattle.std.specs.Prelude.{◌≡◌, ℕ, List, map, Option, Some}
use Rattle.correspondence.specs.Corresponds.{Corresponds, Paired}
use Rattle.correspondence.specs.Related.{BothFail}
use Rattle.c_values.specs.Name.{Name}
use Rattle.c_values.specs.Word.{unsigned, signed}
use Rattle.c_values.specs.Value.{Value, Number, word_in}
use Rattle.c_values.specs.Choice.{Choice}
use Rattle.c_values.specs.Layout.{IsLayout}
use Rattle.c_memory.specs.Memory.{Memory}
use Rattle.c_memory.specs.TypedHeap.{view}
use Rattle.c_memory.specs.Heap.{OnBytes, OnTypes}
use Rattle.expression_lang.specs.Expression.{Exp}
use Rattle.expression_lang.specs.Evaluation.{Env, State, value}
use Rattle.ac_expr.specs.Fact.{AllSay}
use Rattle.expression_lang.specs.Sort.{Kind, word_sort_of}
use Rattle.expression_lang.specs.States.{IsEnvironment, IsState, state_with}
use Rattle.expression_lang.specs.Signature.{Binder}
use Rattle.expression_lang.specs.View.{views_at}
use Rattle.program_facts.specs.Lasting.{AllLast}
use Rattle.monad_lang.specs.Program.{Mon, FinalUnit}
use Rattle.monad_lang.specs.Run.{Answer, runs, functions_below}
use Rattle.monad_lang.specs.Sorted.{scalars_given}
use Rattle.monad_lang.specs.Steady.{IsInRange, IsSteady}
use Rattle.rule_word.specs.Rule.{Context, Point, View, AsIs, Unsigned, Signed}
use Rattle.rule_word.specs.Scopes.{names_in, words, view_for}
use Rattle.rule_word.specs.Kept.{context_of, WordsKept}

-- a value, seen so
abbrev pub seen : View → Value → Value
seen (AsIs o) v = v
seen (Unsigned n) v = Number (unsigned (word_in v))
seen (Signed n) v = Number (signed (word_in v))

-- each name has on the right what stands for its value at its kind
abbrev pub AreSeen : List Binder → Env → Env → Type 0
AreSeen bs env env' = (x : Name) (v : View) → names_in view_for bs x ≡ Some v → env' x ≡ seen v (env x)

-- The names hold values of their kinds' words on the left, and what stands for them on the right; the facts hold on the right; and
-- the state is one that can be.
pub record Meets (ctx : Context) (at : Point) (env env' : Env) (s : State) : Type 0 where
  pub environment : IsEnvironment (words ctx at.names).scope env
  pub names : AreSeen at.names env env'
  pub facts : AllSay ctx.layout env' s at.facts
  pub state : IsState ctx.layout ctx.globals s

-- the right side is the left side's value, seen so
abbrev pub IsSeenAs : Context → Point → Exp → View → Exp → Type 0
IsSeenAs ctx at e v a =
    (env env' : Env) (s : State) → Meets ctx at env env' s → value ctx.layout env' s a ≡ seen v
    (value ctx.layout env s e)

-- words, and what stands for them at these kinds, with equal states
pub record Views (ks : List Kind) (a b : Answer) : Type 0 where
  pub values : b.values ≡ views_at ks a.values
  pub state : b.state ≡ a.state

-- The right side v' stands for the left side. Over the functions of any two units that do so at all smaller bounds, from names,
-- facts and a state as at the point: the right side fails exactly where the left side fails; its results are exactly what stands
-- for the left side's results, with equal states; it stops exactly where the left side stops; each call that it reaches is in range;
-- and it is steady where the left side is.
pub record DoesSame (u v : FinalUnit) (p : Choice) (n : ℕ) (at : Point) (left right : Mon) (ks : List Kind)
    (depth : Option ℕ) (env env' : Env) : Type 0 where
  pub same : (s : State) → Meets (context_of v) at env env' s →
      Corresponds (Views ks) BothFail (runs v.layout p left env depth (functions_below u p n) s)
      (runs v.layout p right env' depth (functions_below v p n) s)
  pub in_range : (s : State) → Meets (context_of v) at env env' s → IsInRange v p right env' depth
      (functions_below v p n) s
  pub steady : (m : Memory) (globals : Name → Value) →
      Meets (context_of v) at env env' (state_with (OnBytes m) globals) → Meets (context_of v) at env env'
      (state_with (OnTypes (view v.layout m)) globals) →
      IsSteady v.layout p left env depth (functions_below u p n) m globals → IsSteady v.layout p right env' depth
      (functions_below v p n) m globals

-- the left side is well-sorted in words, and the functions of the left unit keep sorts
abbrev pub StandsFor : FinalUnit → Point → Mon → Mon → List Kind → Type 0
StandsFor v at left right ks =
    (u : FinalUnit) (p : Choice) (n : ℕ) → IsLayout v.layout → Paired (WordsKept (context_of v))
    (functions_below u p n) (functions_below v p n) →
    AllLast v.layout v.globals word_sort_of (context_of v).functions (functions_below u p n) →
    scalars_given (words (context_of v) at.names) left ≡ Some (map word_sort_of ks) →
    (depth : Option ℕ) (env env' : Env) → DoesSame u v p n at left right ks depth env env'
