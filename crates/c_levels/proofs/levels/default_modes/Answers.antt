-- The levels by marks are the default levels.
use Rattle.std.proofs.Common.{◌≡◌, List, map, ap, subst, ◌∙◌, rules}
use Rattle.std.specs.Prelude.{string_bytes}
use Rattle.std.specs.HashMap.{get_by_text}
use Rattle.std.specs.HashSet.{contains_text}
use Rattle.std.proofs.lemmas.Result.{IfOk-weaker}
use Rattle.expression_lang.specs.CodeExpression.{level_of}
use Rattle.c_lang.specs.CodeTyped.{function_of}
use Rattle.c_lang.specs.declared.tree.TypedFn as F
use Rattle.c_levels.specs.CodeSpread.{listed, leads_by, IsSpread}
use Rattle.c_levels.specs.CodeCalls.{is_start}
use Rattle.c_levels.specs.CodeModes.{default_levels}
use Rattle.c_levels.proofs.DefaultLevels.{made_defaults, made_count}
use Rattle.c_levels.proofs.levels.default_modes.Goals as goal

pub returns-clause-one_each : goal.returns-clause-one_each
returns-clause-one_each c =
    IfOk-weaker c.levels.result (λ m. map level_of m.levels.items ≡ default_levels (λ q. contains_text c.in_ok-words.words q) (map function_of c.deref-5.result.now) c.deref-6.result.now) _
    (λ m h. made_count c.args.u.now (map string_bytes c.args.bytes.now) (map string_bytes c.args.words.now) m (record {
      is_chosen = λ q. contains_text c.in_ok-bytes.bytes q;
      is_worded = λ q. contains_text c.in_ok-words.words q;
      chosen_are = λ q. c.in_ok-bytes.ensures q;
      worded_are = λ q. c.in_ok-words.ensures q;
      calls = c.in_ok-calls.calls.items;
      table = λ q. listed (get_by_text c.in_ok-callers.callers q);
      start = c.in_ok-start.start.items;
      marks = c.in_ok-marks.marks.items;
      started = c.in_ok-start.ensures ∙ ap (λ (fs : List F.TypedFn). map (is_start (λ q. contains_text c.in_ok-bytes.bytes q)) (map function_of fs)) c.deref.ensures.value;
      called = search rules;
      listed = search rules;
      spread =
          subst (λ (fs : List F.TypedFn). IsSpread (leads_by (map (λ f. string_bytes f.name) fs) (λ q. listed (get_by_text c.in_ok-callers.callers q))) c.in_ok-start.start.items c.in_ok-marks.marks.items)
          c.deref-4.ensures.value c.in_ok-marks.ensures;
      made = search rules;
    })) c.levels.ensures

pub returns-clause-defaults : goal.returns-clause-defaults
returns-clause-defaults c =
    IfOk-weaker c.levels.result (λ m. map level_of m.levels.items ≡ default_levels (λ q. contains_text c.in_ok-words.words q) (map function_of c.deref-5.result.now) c.deref-6.result.now) _
    (λ m h. made_defaults c.args.u.now (map string_bytes c.args.bytes.now) (map string_bytes c.args.words.now) m (record {
      is_chosen = λ q. contains_text c.in_ok-bytes.bytes q;
      is_worded = λ q. contains_text c.in_ok-words.words q;
      chosen_are = λ q. c.in_ok-bytes.ensures q;
      worded_are = λ q. c.in_ok-words.ensures q;
      calls = c.in_ok-calls.calls.items;
      table = λ q. listed (get_by_text c.in_ok-callers.callers q);
      start = c.in_ok-start.start.items;
      marks = c.in_ok-marks.marks.items;
      started = c.in_ok-start.ensures ∙ ap (λ (fs : List F.TypedFn). map (is_start (λ q. contains_text c.in_ok-bytes.bytes q)) (map function_of fs)) c.deref.ensures.value;
      called = search rules;
      listed = search rules;
      spread =
          subst (λ (fs : List F.TypedFn). IsSpread (leads_by (map (λ f. string_bytes f.name) fs) (λ q. listed (get_by_text c.in_ok-callers.callers q))) c.in_ok-start.start.items c.in_ok-marks.marks.items)
          c.deref-4.ensures.value c.in_ok-marks.ensures;
      made = search rules;
    })) c.levels.ensures
