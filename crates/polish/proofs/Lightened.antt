-- What the code goes on with is no heavier than what it came from.
use Rattle.std.proofs.Common.{◌≡◌, ℕ, ◌<◌, ◌≤◌, List, Option, Some, None, refl, ap, arith, subst}
use Rattle.std.specs.Option.{option_map}
use Rattle.c_values.specs.Name.{Name}
use Rattle.monad_lang.specs.Program as M
use Rattle.monad_lang.specs.Program.{Mon}
use Rattle.rule_eq.specs.Rule.{Point}
use Rattle.rule_eq.specs.Table.{Taken, taken_at}
use Rattle.rule_walks.specs.Walk.{Walked, Before, Nothing, Led, after_before}
use Rattle.polish.specs.Polished.{polished}
use Rattle.polish.specs.CodeNext as S
use Rattle.polish.specs.CodeNext.{stepped}
use Rattle.polish.specs.CodePutting.{with_taken, put_into}
use Rattle.polish.specs.Descent.{Stage, seen_raised}
use Rattle.polish.specs.Weight.{weight}
use Rattle.polish.proofs.Cases.{some_same}
use Rattle.polish.proofs.Nexts.{put_stepped, none_stepped}
use Rattle.polish.proofs.Weighed.{put_lighter, sequence_lighter, polished_lighter}

pub program_after : (b : Before) (s : Walked) → (after_before b s).program ≡ s.program
program_after Nothing s = refl
program_after (Led w m) s = refl

pub raised_lighter : (at : Point) (v : Stage) (q : Walked) →
    weight (seen_raised polished at v q).program ≤ weight (M.Bind v.first v.names q.program)
raised_lighter at v q = by v.before
  where
    by : (b : Before) → weight (seen_raised polished at (record { before = b; walk = v.walk; first = v.first; names = v.names }) q).program
        ≤ weight (M.Bind v.first v.names q.program)
    by Nothing = sequence_lighter polished polished_lighter at v.first v.names q.program
    by (Led w m) = sequence_lighter polished polished_lighter at v.first v.names q.program

pub into_lighter : (i : ℕ) (m : Mon) (xs : List Name) (n p : Mon) → put_into i m xs n ≡ Some p → weight p < weight (M.Bind m xs n)
into_lighter i (M.Ret es) xs n p h = by (taken_at i es xs) refl h
  where
    by : (o : Option Taken) → taken_at i es xs ≡ o → option_map (λ k. with_taken n k) o ≡ Some p →
        weight p < weight (M.Bind (M.Ret es) xs n)
    by None e f = absurd cc
    by (Some k) e f = subst (λ q. weight q < weight (M.Bind (M.Ret es) xs n)) (some_same (with_taken n k) p f) (put_lighter es xs n i k e)
into_lighter i m xs n p h = absurd cc

pub puts_lighter : (at : Point) (i : ℕ) (m : Mon) (xs : List Name) (n : Mon) →
    weight (stepped polished at (S.Puts i) m xs n).program ≤ weight (M.Bind m xs n)
puts_lighter at i m xs n = by (put_into i m xs n) refl
  where
    by : (o : Option Mon) → put_into i m xs n ≡ o → weight (stepped polished at (S.Puts i) m xs n).program ≤ weight (M.Bind m xs n)
    by None e = omega (arith, ap (λ q. weight q.program) (none_stepped polished at i m xs n e))
    by (Some p) e =
        omega (arith, ap (λ q. weight q.program) (put_stepped polished at i m xs n p e), into_lighter i m xs n p e, polished_lighter at p)
