use Rattle.std.proofs.Common.{rules}
use Rattle.bt_sound.proofs.FollowLemmas.{pushes_number, pushes_words, pushes_quote, pushes_braces}
use Rattle.bt_sound.proofs.parts.constant.Goals as goal

pub returns-in-Number : goal.returns-in-Number
returns-in-Number c = pushes_number _ _ _ _ c.in-Number.is (search rules) c.exactly.ensures

pub returns-in-Text : goal.returns-in-Text
returns-in-Text c = pushes_words _ _ _ c.in-Text.is c.literal.ensures

pub returns-in-Quote : goal.returns-in-Quote
returns-in-Quote c = pushes_quote _ _ c.in-Quote.is

pub returns-in-Block : goal.returns-in-Block
returns-in-Block c = pushes_braces _ _ _ c.in-Block.is c.as_slice.ensures.value
