-- What holds of an option by its cases.
use Rattle.std.proofs.Common.{Option, Some, None}
use Rattle.std.specs.Option.{MatchOption, IfSome, IfNone}

pub if_some : {T : Type 0} (o : Option T) (P : Type 0) (Q R : T → Type 0) → MatchOption o P Q → ((x : T) → Q x → R x) → IfSome o R
if_some None P Q R h f = tt
if_some (Some x) P Q R h f = f x h

pub if_none : {T : Type 0} (o : Option T) (P R : Type 0) (Q : T → Type 0) → MatchOption o P Q → (P → R) → IfNone o R
if_none None P R Q h f = f h
if_none (Some x) P R Q h f = tt
