use Rattle.std.proofs.Common.{rules, ◌≡◌, ◌∷◌, map, length, ap, subst, arith}
use Rattle.std.proofs.lemmas.List.{length-map}
use Rattle.expression_lang.specs.CodeExpression.{level_of}
use Rattle.c_lang.specs.CodeTyped.{function_of}
use Rattle.checking.proofs.LinesLeft.{AreFrom, AreWritten, first_is_at, next_from, length_from, level_is, one_more}
use Rattle.checking.proofs.lines.function_lines.Goals as goal

pub add_line-requires-clause-position : goal.add_line-requires-clause-position
add_line-requires-clause-position c =
    let items : c.functions.functions.now ≡ c.in-Some.function.now ∷ c.in-Some.others.now = search rules in
    let all = length-map c.args.unit.now.functions.items function_of in
    let left = length-map c.functions.functions.now function_of in
    let long = ap length items in
    let place = length_from (map function_of c.args.unit.now.functions.items) c.functions.at (map function_of c.functions.functions.now) c.functions.invariant.from in
    omega (arith, all, left, long, place)

pub add_line-requires-clause-here : goal.add_line-requires-clause-here
add_line-requires-clause-here c =
    let items : c.functions.functions.now ≡ c.in-Some.function.now ∷ c.in-Some.others.now = search rules in
    first_is_at (map function_of c.args.unit.now.functions.items) c.functions.at (function_of c.in-Some.function.now) (map function_of c.in-Some.others.now)
    (subst (λ fs. AreFrom (map function_of c.args.unit.now.functions.items) c.functions.at (map function_of fs)) items c.functions.invariant.from)

pub overflow_add-at : goal.overflow_add-at
overflow_add-at c =
    let items : c.functions.functions.now ≡ c.in-Some.function.now ∷ c.in-Some.others.now = search rules in
    let all = length-map c.args.unit.now.functions.items function_of in
    let left = length-map c.functions.functions.now function_of in
    let long = ap length items in
    let place = length_from (map function_of c.args.unit.now.functions.items) c.functions.at (map function_of c.functions.functions.now) c.functions.invariant.from in
    omega (arith, all, left, long, place, c.requires.few)

pub functions-preserved : goal.functions-preserved
functions-preserved c =
    let items : c.functions.functions.now ≡ c.in-Some.function.now ∷ c.in-Some.others.now = search rules in
    let levels_left : c.functions.levels.now ≡ c.in-Some-split_first.level.now ∷ c.in-Some-split_first.behind.now = search rules in
    record {
      from = next_from (map function_of c.args.unit.now.functions.items) c.functions.at (function_of c.in-Some.function.now) (map function_of c.in-Some.others.now)
          (subst (λ fs. AreFrom (map function_of c.args.unit.now.functions.items) c.functions.at (map function_of fs)) items c.functions.invariant.from);
      written = λ levels is.
          let so_far =
          subst (λ ks. AreWritten levels (map function_of c.args.unit.now.functions.items) (map function_of (c.in-Some.function.now ∷ c.in-Some.others.now)) (map level_of ks) c.functions.lines.items) levels_left
          (subst (λ fs. AreWritten levels (map function_of c.args.unit.now.functions.items) (map function_of fs) (map level_of c.functions.levels.now) c.functions.lines.items) items
          (c.functions.invariant.written levels is)) in
          one_more levels (map function_of c.args.unit.now.functions.items) (function_of c.in-Some.function.now) (map function_of c.in-Some.others.now)
          (level_of c.in-Some-split_first.level.now) (map level_of c.in-Some-split_first.behind.now) c.functions.lines.items so_far c.add_line.new.lines.items
          (c.in_ok-add_line.ensures levels is (level_is _ _ _ _ so_far.left_are));
    }
