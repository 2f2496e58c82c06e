-- What a sequence whose first part is tidy leads to, at the bottom of a descent.
use Rattle.std.specs.Prelude.{◌≡◌, ℕ, ◌<◌, ◌≤◌, List, []}
use Rattle.c_values.specs.Name.{Name}
use Rattle.ac_expr.specs.Fact.{Fact}
use Rattle.monad_lang.specs.Program as M
use Rattle.monad_lang.specs.Program.{Mon}
use Rattle.monad_lang.specs.CodeProgram.{mon_of}
use Rattle.rule_eq.specs.Table.{behind}
use Rattle.rule_walks.specs.Walk.{Walked, Before, after_before}
use Rattle.rule_walks.specs.CodeWalks.{walk_in, before_in, made_in}
use Rattle.expression_steps.specs.declared.points.Scoped as N
use Rattle.given_scalars.specs.declared.unit.Unit as U
use Rattle.polish.specs.declared.descent.Descent as D
use Rattle.polish.specs.declared.following.Here as H
use Rattle.polish.specs.declared.following.Bottom as B
use Rattle.polish.specs.declared.following.Followed as W
use Rattle.polish.specs.Polished.{bound, polished, turned}
use Rattle.polish.specs.Climbed.{Next}
use Rattle.polish.specs.Seen.{seen}
use Rattle.polish.specs.SeenFollowed.{at_bottom, seen_followed}
use Rattle.polish.specs.Weight.{weight}
use Rattle.polish.specs.CodeNextView.{next_in}
use Rattle.polish.specs.CodeDescent.{point_past, IsKept, up_from, rebuilt}

-- What comes of a place on the way down, at the top

abbrev pub leads : U.Unit → N.Scoped → List Fact → List Name → Mon → H.Here → Walked
leads u scope fs xs n h =
    up_from u scope fs h.down
    (seen_followed polished (λ a. seen (polished a n)) (point_past u scope fs h.down.parts.items) (before_in h.ahead)
    (walk_in h.walk) (mon_of h.raw.now) (mon_of h.first.now) xs n)

-- the sequence there in those that were entered
abbrev pub heavy : List Name → Mon → H.Here → ℕ
heavy xs n h = weight (rebuilt h.down.parts.items (M.Bind (mon_of h.first.now) xs n))

-- the same comes of another place
pub record LeadsOn (u : U.Unit) (scope : N.Scoped) (xs : List Name) (n : Mon) (from : H.Here) (to : H.Here) : Type 0 where
  pub kept : IsKept u scope to.down
  pub same : (fs : List Fact) → leads u scope fs xs n to ≡ leads u scope fs xs n from
  pub lighter : heavy xs n to ≤ heavy xs n from

-- The bottom, where this is done next

abbrev pub ending : U.Unit → N.Scoped → List Fact → List Name → Mon → H.Here → Next → Walked
ending u scope fs xs n h next =
    up_from u scope fs h.down
    (at_bottom polished (λ a. seen (polished a n)) (point_past u scope fs h.down.parts.items) (before_in h.ahead)
    (walk_in h.walk) next (mon_of h.first.now) xs n)

pub record IsBottom (u : U.Unit) (scope : N.Scoped) (fs : List Fact) (xs : List Name) (n : Mon) (from : H.Here) (b : B.Bottom)
    : Type 0 where
  pub kept : IsKept u scope b.here.down
  pub same : ending u scope fs xs n b.here (next_in b.next) ≡ leads u scope fs xs n from
  pub lighter : heavy xs n b.here ≤ heavy xs n from

-- What became of it: what is left to be done in the second part, or nothing

abbrev pub outcome : U.Unit → N.Scoped → List Fact → Mon → W.Followed → Walked
outcome u scope fs n (W.TheVariants.Goes d a) =
    up_from u scope fs d (after_before (before_in a) (seen (polished (point_past u scope fs d.parts.items) n)))
outcome u scope fs n (W.TheVariants.Ends d p) = up_from u scope fs d (made_in p)

abbrev pub descent_in : W.Followed → D.Descent
descent_in (W.TheVariants.Goes d a) = d
descent_in (W.TheVariants.Ends d p) = d

abbrev pub left : Mon → W.Followed → Mon
left n (W.TheVariants.Goes d a) = rebuilt d.parts.items n
left n (W.TheVariants.Ends d p) = rebuilt d.parts.items (mon_of p.program.value)

pub record IsFollowed (u : U.Unit) (scope : N.Scoped) (fs : List Fact) (n : Mon) (whole : Walked) (most : ℕ) (f : W.Followed)
    : Type 0 where
  pub kept : IsKept u scope (descent_in f)
  pub same : outcome u scope fs n f ≡ whole
  pub lighter : weight (left n f) ≤ most

-- A sequence in first place, of these parts, is turned, and so are those in first place of what is left.
pub record IsTurned (u : U.Unit) (scope : N.Scoped) (xs : List Name) (n : Mon) (a : Mon) (zs : List Name) (c : Mon) (d : D.Descent)
    (m : Mon) : Type 0 where
  pub kept : IsKept u scope d
  pub same : (fs : List Fact) →
      up_from u scope fs d (seen (bound polished (point_past u scope fs d.parts.items) m xs n))
      ≡ seen
      (turned a zs c xs n (bound polished (behind a zs (point_past u scope fs [])) c xs n)
      (λ r. bound polished (point_past u scope fs []) a zs r))
  pub lighter : weight (rebuilt d.parts.items (M.Bind m xs n)) < weight (M.Bind (M.Bind a zs c) xs n)

-- What is left of a program, after what was done before.
pub record IsOnward (u : U.Unit) (scope : N.Scoped) (fs : List Fact) (m : Mon) (d : D.Descent) (b : Before) (r : Mon) : Type 0 where
  pub kept : IsKept u scope d
  pub same : up_from u scope fs d (after_before b (seen (polished (point_past u scope fs d.parts.items) r)))
      ≡ seen (polished (point_past u scope fs []) m)
  pub lighter : weight (rebuilt d.parts.items r) ≤ weight m
