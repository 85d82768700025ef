-- The methods that the desk knows.
use Rattle.std.specs.Prelude.{ℕ, Bool, true, false, List, codes, bytes_eq, if◌then◌else◌}
use Rattle.bt_lsp.specs.declared.methods.Request.{Request}
use Rattle.bt_lsp.specs.declared.methods.Request.TheVariants.{Initialize, Shutdown, AtCursor, OfDocument, OfPaper, OfRun, Unknown}
use Rattle.bt_lsp.specs.declared.methods.CursorQuery.TheVariants.{Hover, Definition, References, Rename, NameRange, Completion}
use Rattle.bt_lsp.specs.declared.methods.DocumentQuery.TheVariants.{Outline, Folds, Format, Actions, Links}
use Rattle.bt_lsp.specs.declared.methods.PaperQuery.TheVariants.{Bibliography, Log, Status, Symbols}
use Rattle.bt_lsp.specs.declared.methods.RunQuery.TheVariants.{Lenses, Origin}
use Rattle.bt_lsp.specs.declared.methods.Notice.{Notice}
use Rattle.bt_lsp.specs.declared.methods.Notice.TheVariants.{Opened, Changed, Closed, Saved, Exit, Other}

-- the request of a method
abbrev pub request_of : List ℕ → Request
request_of method =
    if bytes_eq method (codes "initialize") then Initialize else
    (if bytes_eq method (codes "shutdown") then Shutdown else
    (if bytes_eq method (codes "textDocument/hover") then AtCursor Hover else
    (if bytes_eq method (codes "textDocument/definition") then AtCursor Definition else
    (if bytes_eq method (codes "textDocument/references") then AtCursor References else
    (if bytes_eq method (codes "textDocument/rename") then AtCursor Rename else
    (if bytes_eq method (codes "textDocument/prepareRename") then AtCursor NameRange else
    (if bytes_eq method (codes "textDocument/completion") then AtCursor Completion else
    (if bytes_eq method (codes "textDocument/documentSymbol") then OfDocument Outline else
    (if bytes_eq method (codes "textDocument/foldingRange") then OfDocument Folds else
    (if bytes_eq method (codes "textDocument/formatting") then OfDocument Format else
    (if bytes_eq method (codes "textDocument/rangeFormatting") then OfDocument Format else
    (if bytes_eq method (codes "textDocument/codeAction") then OfDocument Actions else
    (if bytes_eq method (codes "textDocument/documentLink") then OfDocument Links else
    (if bytes_eq method (codes "bibtex/bbl") then OfPaper Bibliography else
    (if bytes_eq method (codes "bibtex/log") then OfPaper Log else
    (if bytes_eq method (codes "bibtex/status") then OfPaper Status else
    (if bytes_eq method (codes "workspace/symbol") then OfPaper Symbols else
    (if bytes_eq method (codes "textDocument/codeLens") then OfRun Lenses else
    (if bytes_eq method (codes "bibtex/origin") then OfRun Origin else Unknown)))))))))))))))))))

-- the notification of a method
abbrev pub notice_of : List ℕ → Notice
notice_of method =
    if bytes_eq method (codes "textDocument/didOpen") then Opened else
    (if bytes_eq method (codes "textDocument/didChange") then Changed else
    (if bytes_eq method (codes "textDocument/didClose") then Closed else
    (if bytes_eq method (codes "textDocument/didSave") then Saved else
    (if bytes_eq method (codes "workspace/didChangeWatchedFiles") then Saved else
    (if bytes_eq method (codes "exit") then Exit else Other)))))

-- whether the files that aren't open are read again
abbrev pub rereads : Notice → Bool
rereads Opened = false
rereads Changed = false
rereads Closed = true
rereads Saved = true
rereads Exit = false
rereads Other = false
