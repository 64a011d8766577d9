-- What the table of a draft holds. Assumes nothing.
use Rattle.sheets.specs.Sheets.{Content, content}
use Rattle.lines.specs.declared.line.Draft.{Draft}

abbrev pub drafted : Draft → Content
drafted d = content d.table.now
