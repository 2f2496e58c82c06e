use Rattle.std.proofs.Common.{subst}
use Rattle.c_grammar.specs.CodeTree.{unit_of as tree_of}
use Rattle.c_lang.specs.CodeTyped.{unit_of}
use Rattle.typing_rules.specs.Unit.{IsTyped}
use Rattle.text_answers.proofs.texts.answer_tree.Goals as goal

pub answer-requires : goal.answer-requires
answer-requires g c = record {
  text = c.requires.of_text.text;
  short = c.requires.of_text.short;
  is_text = record {
    tokens = c.requires.tokens;
    are_tokens = c.requires.of_text.are_tokens;
    tree = tree_of c.args.tree;
    is_tree = c.requires.is_tree;
    typed = subst (λ t. IsTyped t (tree_of c.args.tree) (unit_of c.in-Ok.unit)) c.target.ensures c.in-Ok.ensures.typed;
  };
}
