use Rattle.bt_sound.proofs.FollowLemmas.{makes_field, makes_own_number, makes_own_text, makes_global_number, makes_global_text}
use Rattle.bt_sound.proofs.parts.read.Goals as goal

pub returns-in_ok-after-in-Field : goal.returns-in_ok-after-in-Field
returns-in_ok-after-in-Field c = makes_field _ _ _ _ c.in-Field.is c.in_ok-after-in-Field.ensures

pub returns-in_ok-after-in-EntryNumber : goal.returns-in_ok-after-in-EntryNumber
returns-in_ok-after-in-EntryNumber c = makes_own_number _ _ _ _ c.in-EntryNumber.is c.in_ok-after-in-EntryNumber.ensures

pub returns-in_ok-after-in-EntryText : goal.returns-in_ok-after-in-EntryText
returns-in_ok-after-in-EntryText c = makes_own_text _ _ _ _ c.in-EntryText.is c.in_ok-after-in-EntryText.ensures

pub returns-in_ok-after-in-GlobalNumber : goal.returns-in_ok-after-in-GlobalNumber
returns-in_ok-after-in-GlobalNumber c = makes_global_number _ _ _ _ c.in-GlobalNumber.is c.in_ok-after-in-GlobalNumber.ensures

pub returns-in_ok-after-in-GlobalText : goal.returns-in_ok-after-in-GlobalText
returns-in_ok-after-in-GlobalText c = makes_global_text _ _ _ _ c.in-GlobalText.is c.in_ok-after-in-GlobalText.ensures
