use Rattle.std.proofs.Common.{◌<◌, ◌^◌, length, arith}
use Rattle.text_answers.proofs.texts.answer_text.Goals as goal

pub answer_tokens-requires : goal.answer_tokens-requires
answer_tokens-requires g c =
    let short : length c.args.text.now < 2 ^ 64 = omega arith in
    record {
      text = c.args.text.now;
      short = short;
      are_tokens = c.in-Ok.ensures.found;
    }
