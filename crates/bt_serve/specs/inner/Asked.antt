-- What a line asks for, as definitions see it.
use Rattle.bibtex.specs.Edit.{edit_of}
use Rattle.bt_serve.specs.Commands as commands
use Rattle.bt_serve.specs.declared.command.Request.{Request}
use Rattle.bt_serve.specs.declared.command.Request.TheVariants.{Edit, Bbl, Blg, Status, Quit, Unreadable, TooLong}

abbrev pub request_seen : Request → commands.Request
request_seen (Edit e n) = commands.edit (edit_of e) n
request_seen Bbl = commands.bbl
request_seen Blg = commands.blg
request_seen Status = commands.status
request_seen Quit = commands.quit
request_seen Unreadable = commands.unreadable
request_seen TooLong = commands.too_long
