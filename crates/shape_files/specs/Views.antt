-- What the code answers and keeps, as the grammar of documents says it.
use Rattle.std.specs.Prelude.{Result, Ok, Err}
use Rattle.text_tokens.specs.declared.refusal.Refusal.{Refusal}
use Rattle.shape_files.specs.declared.parts.Parts.{Parts}
use Rattle.shape_files.specs.Documents.{Contents}
use Rattle.text_tokens.specs.declared.refusal.ReadRefusal.{ReadRefusal}
use Rattle.text_tokens.specs.declared.refusal.ReadRefusal.TheVariants.{Refused}

-- an answer that is never out of memory, as one that may be
abbrev pub as_read : {A : Type 0} → Result A Refusal → Result A ReadRefusal
as_read (Ok a) = Ok a
as_read (Err r) = Err (Refused r)

-- what a document has
abbrev pub contents : Parts → Contents
contents p =
    record {
      version = p.version;
      checked = p.checked;
      world = p.world;
      lists = p.lists;
      schedule = p.schedule;
      entries = p.entries;
      plain = p.plain;
      final_world = p.final_world;
    }
