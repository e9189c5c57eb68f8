use Rattle.run_laws.proofs.segment_law.writing_laws.Goals as goal

pub returns : goal.returns
returns c =
    let items = c.items_say_all.ensures in
    let texts = c.what_flies_is_its_text.ensures in
    record {
      items = record { attempts_are_alike = items.alike; nothing_is_any_kind = items.nothing; telling_setting = items.setting };
      clients_write_texts = texts.client;
      cleaner_writes_texts = texts.cleaner;
      managers_write_texts = texts.manager;
      runs_write_originals = c.runs_write_so.ensures.originals;
      runs_write_copies = c.runs_write_so.ensures.copies;
      clients_flew_originals = c.clients_flew_originals.ensures.runs;
    }
