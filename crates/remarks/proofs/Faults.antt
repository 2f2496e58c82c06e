-- The faults of tokens and of a tree are those of their text.
use Rattle.std.proofs.Common.{ℕ, List, inl, inr, refl}
use Rattle.std.specs.Prelude.{Result, Ok, Err, Option, Some, None, IfOk, MatchOption}
use Rattle.std.specs.declared.alloc.AllocError.{AllocError}
use Rattle.c_values.specs.Types.{Target}
use Rattle.c_lex.specs.Lexeme.{Lexeme}
use Rattle.c_lex.specs.Front.{bad_byte, bad_number, open_comment, unsupported, long_name}
use Rattle.c_lex.specs.Tokens.{Tokens, FaultAt}
use Rattle.c_lex.specs.declared.fault.Unsupported as words
use Rattle.remarks.specs.Fault.{IsFault, IsTyped}
use Rattle.remarks.specs.CodeLook.{IsTokensFault, AreTyped}
use Rattle.remarks.specs.declared.fault.Fault.{Fault}
use Rattle.remarks.specs.declared.fault.Cause.{Cause}
use Rattle.remarks.specs.declared.fault.Cause.TheVariants as cause

module _ (target : Target) (text : List ℕ) (at : ℕ) where
  pub bad_byte_fault : FaultAt text bad_byte at → IsFault target text cause.BadByte at
  bad_byte_fault h = record { told = inl (record { cause = bad_byte; at = at; fault = h; written = refl }); place = tt }

  pub bad_number_fault : FaultAt text bad_number at → IsFault target text cause.BadNumber at
  bad_number_fault h = record { told = inl (record { cause = bad_number; at = at; fault = h; written = refl }); place = tt }

  pub open_comment_fault : FaultAt text open_comment at → IsFault target text cause.OpenComment at
  open_comment_fault h = record { told = inl (record { cause = open_comment; at = at; fault = h; written = refl }); place = tt }

  pub unsupported_fault : (word : words.Unsupported) → FaultAt text (unsupported word) at → IsFault target text (cause.Unsupported word) at
  unsupported_fault word h = record { told = inl (record { cause = unsupported word; at = at; fault = h; written = refl }); place = tt }

  pub long_name_fault : FaultAt text long_name at → IsFault target text cause.LongName at
  long_name_fault h = record { told = inl (record { cause = long_name; at = at; fault = h; written = refl }); place = tt }

module _ (target : Target) (text : List ℕ) (ts : List Lexeme) (are : Tokens text ts) where
  pub tokens_fault : (c : Cause) (at : ℕ) → IsTokensFault target ts c at → IsFault target text c at
  tokens_fault cause.Syntax at h =
      record { told = inr (record { tokens = ts; are_tokens = are; answer = inl (record { no_tree = h.0; at = at; place = h.1; written = refl }) }); place = tt }
  tokens_fault (cause.Limit limit) at h =
      record {
        told = record { tokens = ts; are_tokens = are; answer = inl (record { limit = limit; at = at; passes = h; written = refl }) };
        place = record { tokens = ts; are_tokens = are; passes = h };
      }
  tokens_fault (cause.Typing kind) at h =
      record {
        told = inr (record { tokens = ts; are_tokens = are; answer = inr (record { tree = h.tree; is_tree = h.is_tree; answer = record { at = at; kind = kind; first_bad = h.of_tree; written = refl } }) });
        place = tt;
      }
  tokens_fault _ _ h = absurd h.of_tree

  pub tokens_typed : AreTyped target ts → IsTyped target text
  tokens_typed h =
      record { unit = h.of_tree.unit; is_text = record { tokens = ts; are_tokens = are; tree = h.tree; is_tree = h.is_tree; typed = h.of_tree.typed } }

  -- what is found in the tokens is found in the text
  pub text_found : (r : Result (Option Fault) AllocError) → IfOk r (λ found. MatchOption found (AreTyped target ts) (λ f. IsTokensFault target ts f.cause f.at)) → IfOk r (λ found. MatchOption found (IsTyped target text) (λ f. IsFault target text f.cause f.at))
  text_found (Err e) h = tt
  text_found (Ok None) h = tokens_typed h
  text_found (Ok (Some f)) h = tokens_fault f.cause f.at h
