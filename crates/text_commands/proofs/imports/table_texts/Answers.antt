use Rattle.text_commands.proofs.TablesRead.{table-imports}
use Rattle.text_commands.proofs.imports.table_texts.Goals as goal

pub returns-clause-texts : goal.returns-clause-texts
returns-clause-texts c =
    let t = rw c.in_ok-import.was at c.table_of.ensures.table in
    record {
      import = c.in_ok-import.field-0.import;
      exact = table-imports c.args.options.now c.args.text.items c.in_ok-import.field-0.import c.in_ok-import.field-0.table.items t;
      written = t;
      told = rw c.in_ok-notes.was at c.notes_text.ensures;
    }
