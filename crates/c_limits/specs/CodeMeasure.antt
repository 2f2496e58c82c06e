-- How measures are found on the script of a text, with no tree: the parts that have been read stand on a stack, the last one
-- first, each with the offset where it begins and its measure. Where a production ends, its parts are taken from there, put side
-- by side, and what the production makes of them is put there. `keep` is what is kept of each measure that is made: all of it,
-- or the offsets up to the first one past the limit.
use Rattle.std.specs.Prelude.{ℕ, suc, zero, ◌+◌, List, [], ◌∷◌, Option, Some, None, take, unwrap_or, fold, Box}
use Rattle.std.specs.declared.alloc.Global.{Global}
use Rattle.c_lex.specs.Lexeme.{Lexeme}
use Rattle.c_grammar.specs.declared.symbol.Production.{Production}
use Rattle.c_grammar.specs.declared.scripts.Step.{Step}
use Rattle.c_grammar.specs.declared.scripts.Step.TheVariants.{Shift, Reduce}
use Rattle.c_limits.specs.declared.limits.Limit.{Limit}
use Rattle.c_limits.specs.declared.limits.Limit.TheVariants as limit
use Rattle.c_limits.specs.declared.limits.role.Role.{Role}
use Rattle.c_limits.specs.declared.limits.role.Role.TheVariants as roles
use Rattle.c_limits.specs.declared.limits.measure.Measure as code
use Rattle.c_limits.specs.declared.limits.part.Part as code_part
use Rattle.c_limits.specs.CodeRoles.{role_of, arity}
use Rattle.c_limits.specs.Limits.{Measure, Fault, most, past, earlier, nothing, beside, node, outermost, statement, local, function}

-- the measure that the code's own stands for
abbrev pub measure_of : code.Measure → Measure
measure_of m =
    record {
      functions = m.functions.items;
      statements = m.statements.items;
      blocks = m.blocks.items;
      nodes = m.nodes.items;
      depth = m.depth.items;
      fault = m.fault;
    }

-- a part of a text: the offset of its first token, where that can be the first one of a node, and its measure
pub record Part : Type 0 where
  pub first : Option ℕ
  pub measure : Measure

-- and what counts in a part of the code's own, if anything does
abbrev pub counted : Option (Box code.Measure Global) → Measure
counted None = nothing
counted (Some m) = measure_of m.value

abbrev pub part_of : code_part.Part → Part
part_of p = record { first = p.first; measure = counted p.measure }

-- the offsets up to the first one past the limit
abbrev pub cut_at : Limit → List ℕ → List ℕ
cut_at l offsets = take (most l + 1) offsets

abbrev pub cut : Measure → Measure
cut m =
    record {
      functions = cut_at limit.Functions m.functions;
      statements = cut_at limit.Statements m.statements;
      blocks = cut_at limit.Blocks m.blocks;
      nodes = cut_at limit.Nodes m.nodes;
      depth = cut_at limit.Depth m.depth;
      fault = m.fault;
    }

abbrev pub cut_part : Part → Part
cut_part p = record { first = p.first; measure = cut p.measure }

abbrev pub empty : Part
empty = record { first = None; measure = nothing }

abbrev pub token : ℕ → Part
token a = record { first = Some a; measure = nothing }

abbrev pub or_else : Option ℕ → Option ℕ → Option ℕ
or_else None b = b
or_else (Some a) b = Some a

abbrev pub joined : (Measure → Measure) → Part → Part → Part
joined keep p q = record { first = or_else p.first q.first; measure = keep (beside p.measure q.measure) }

-- so many parts from the top of the stack, side by side before what has been taken, and the stack below them
abbrev pub gathered : (Measure → Measure) → ℕ → List Part → Part → Part × List Part
gathered keep zero ps sum = (sum, ps)
gathered keep (suc n) [] sum = (sum, [])
gathered keep (suc n) (p ∷ ps) sum = gathered keep n ps (joined keep p sum)

-- what a production makes of its parts
abbrev pub made : (Measure → Measure) → Role → Part → Option Part
made keep roles.Nothing p = None
made keep roles.Leaf p = Some (record { first = p.first; measure = keep (node (unwrap_or p.first 0) p.measure) })
made keep roles.Node p = Some (record { first = p.first; measure = keep (node (unwrap_or p.first 0) p.measure) })
made keep roles.Specifier p = Some p
made keep roles.TypePart p = Some (record { first = None; measure = p.measure })
made keep roles.Part p = Some (record { first = None; measure = p.measure })
made keep (roles.Sequence n) p = Some (record { first = None; measure = p.measure })
made keep roles.Simple p = Some (record { first = p.first; measure = outermost p.measure })
made keep roles.Outermost p = Some (record { first = None; measure = outermost p.measure })
made keep roles.Statement p = Some (record { first = None; measure = keep (statement (unwrap_or p.first 0) p.measure) })
made keep (roles.Compound n) p = Some (record { first = None; measure = keep (statement (unwrap_or p.first 0) p.measure) })
made keep roles.Local p = Some (record { first = None; measure = keep (local (unwrap_or p.first 0) p.measure) })
made keep roles.Function p = Some (record { first = None; measure = keep (function (unwrap_or p.first 0) p.measure) })

abbrev pub pushed : Option Part → List Part → List Part
pushed None ps = ps
pushed (Some p) ps = p ∷ ps

unfoldable pub reduced : (Measure → Measure) → Production → List Part → List Part
reduced keep p ps = let g = gathered keep (arity p) ps empty in pushed (made keep (role_of p) g.0) g.1

-- the tokens that are left and the parts, behind a step of the script
unfoldable pub advanced : (Measure → Measure) → Step → List Lexeme × List Part → List Lexeme × List Part
advanced keep Shift ([], ps) = ([], ps)
advanced keep Shift (t ∷ ts, ps) = (ts, token t.from ∷ ps)
advanced keep (Reduce p) (ts, ps) = (ts, reduced keep p ps)

-- the parts behind all steps
abbrev pub measured : (Measure → Measure) → List Step → List Lexeme → List Part
measured keep steps tokens = (fold (λ state step. advanced keep step state) (tokens, []) steps).1

-- the first limit that is passed where a whole text stands on the stack
abbrev pub limit_of : List Part → Option Fault
limit_of [] = None
limit_of (p ∷ ps) = earlier (past limit.Functions p.measure.functions) p.measure.fault
