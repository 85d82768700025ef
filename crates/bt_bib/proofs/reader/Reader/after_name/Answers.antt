use Rattle.std.specs.List.{take_while}
use Rattle.std.proofs.Common.{ap, length, ◌∙◌}
use Rattle.std.proofs.lemmas.List.{take_rest}
use Rattle.bt_text.specs.NameBytes.{is_name_byte}
use Rattle.bt_bib.proofs.RunLemmas.{flat_run, name_flat}
use Rattle.bt_bib.proofs.reader.Reader.after_name.Goals as goal

pub returns-clause-value : goal.returns-clause-value
returns-clause-value c =
    let text = c.args.self.now.text.now in
    let s = c.args.from in
    flat_run is_name_byte name_flat text s c.name_bytes_len-len.result (c.name_bytes_len-len.ensures.len ∙ ap (λ l. length (take_while is_name_byte l)) (take_rest text s.place))
