-- The laws of the crate, which no code needs. `specs/laws` has what they say.
use Rattle.std.specs.List.{slice_split}
use Rattle.std.proofs.Common.{map}
use Rattle.bt_text.specs.ByteTests.{is_line_feed}
use Rattle.bt_bib.specs.AuxLine.{aux_lines}
use Rattle.bt_files.specs.laws.AuxText.{WrittenItemsAreRead, IsWritable, ReadItemsAreWritable, RenamedItemsAreWritable, RenamedItemsAreRead, RenamedItemsNameFiles}
use Rattle.bt_files.specs.AuxText.{written, item_with}
use Rattle.bt_files.proofs.laws.AuxTextLemmas
use Rattle.bt_files.proofs.laws.AuxReadLemmas
use Rattle.bt_files.proofs.laws.AuxNameLemmas
use Rattle.bt_files.specs.laws.Laws.{SessionNamesLeadBack, SessionNamesDiffer, AuthorNamesLeadBack, SessionNamesAreAdmitted, SessionNamesStay, MessagesStayWithoutNames, StatusStays}
use Rattle.bt_files.proofs.laws.TableLemmas
use Rattle.bt_files.proofs.laws.MetLemmas
use Rattle.bt_files.proofs.laws.MessageLemmas
use Rattle.bt_files.proofs.MessageLemmas.{message_stays}

pub written_items_are_read : WrittenItemsAreRead
unfolding aux_lines written IsWritable
written_items_are_read = λ items are. AuxTextLemmas.written_is_read items are

pub read_items_are_writable : ReadItemsAreWritable
unfolding aux_lines IsWritable
read_items_are_writable = λ text. AuxReadLemmas.read_is_writable 1 (slice_split is_line_feed text)

pub renamed_items_are_writable : RenamedItemsAreWritable
unfolding IsWritable
renamed_items_are_writable = λ f items gives are. AuxReadLemmas.renamed_is_writable f gives 1 items are

pub renamed_items_are_read : RenamedItemsAreRead
unfolding aux_lines written
renamed_items_are_read = λ f text gives.
    AuxTextLemmas.written_is_read (map (item_with f) (aux_lines text)) (AuxReadLemmas.renamed_is_writable f gives 1 (aux_lines text) (AuxReadLemmas.read_is_writable 1 (slice_split is_line_feed text)))

pub renamed_items_name_files : RenamedItemsNameFiles
renamed_items_name_files = λ f i bib bst. AuxNameLemmas.renamed_names f bib bst i.command i.parts

pub session_names_lead_back : SessionNamesLeadBack
session_names_lead_back = TableLemmas.leads_back

pub session_names_differ : SessionNamesDiffer
session_names_differ = MetLemmas.differ

pub author_names_lead_back : AuthorNamesLeadBack
author_names_lead_back = MetLemmas.met_lead_back

pub session_names_are_admitted : SessionNamesAreAdmitted
session_names_are_admitted = TableLemmas.is_admitted

pub session_names_stay : SessionNamesStay
session_names_stay = record { met = TableLemmas.met_named; kept = TableLemmas.name_stays }

pub messages_stay_without_names : MessagesStayWithoutNames
messages_stay_without_names = message_stays

pub status_stays : StatusStays
status_stays = MessageLemmas.status_same
