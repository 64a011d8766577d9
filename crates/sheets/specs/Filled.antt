-- What a sheet holds. Assumes nothing.
use Rattle.sheets.specs.declared.sheet.Sheet.{Sheet}
use Rattle.sheets.specs.Sheets.{Content, content}

abbrev pub sheet_content : Sheet → Content
sheet_content s = content s.table
