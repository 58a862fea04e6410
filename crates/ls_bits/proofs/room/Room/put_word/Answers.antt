use Rattle.std.proofs.Common.{◌/◌, ◌%◌, ◌^◌, ◌++◌, ◌∷◌, [], ap, ◌∙◌}
use Rattle.ls_bits.proofs.room.Room.put_word.Goals as goal

pub returns-clause-items : goal.returns-clause-items
returns-clause-items g c =
    c.put_byte-8.ensures.items ∙ ap (λ byte. (g.Self.Room.items c.put_byte-7.new.self) ++ byte ∷ []) c.byte_at-8.ensures
    ∙ ap (λ list. list ++ c.args.word / 2 ^ 0 % 256 ∷ []) (c.put_byte-7.ensures.items ∙ ap (λ byte. (g.Self.Room.items c.put_byte-6.new.self) ++ byte ∷ []) c.byte_at-7.ensures
    ∙ ap (λ list. list ++ c.args.word / 2 ^ 8 % 256 ∷ []) (c.put_byte-6.ensures.items ∙ ap (λ byte. (g.Self.Room.items c.put_byte-5.new.self) ++ byte ∷ []) c.byte_at-6.ensures
    ∙ ap (λ list. list ++ c.args.word / 2 ^ 16 % 256 ∷ []) (c.put_byte-5.ensures.items ∙ ap (λ byte. (g.Self.Room.items c.put_byte-4.new.self) ++ byte ∷ []) c.byte_at-5.ensures
    ∙ ap (λ list. list ++ c.args.word / 2 ^ 24 % 256 ∷ []) (c.put_byte-4.ensures.items ∙ ap (λ byte. (g.Self.Room.items c.put_byte-3.new.self) ++ byte ∷ []) c.byte_at-4.ensures
    ∙ ap (λ list. list ++ c.args.word / 2 ^ 32 % 256 ∷ []) (c.put_byte-3.ensures.items ∙ ap (λ byte. (g.Self.Room.items c.put_byte-2.new.self) ++ byte ∷ []) c.byte_at-3.ensures
    ∙ ap (λ list. list ++ c.args.word / 2 ^ 40 % 256 ∷ []) (c.put_byte-2.ensures.items ∙ ap (λ byte. (g.Self.Room.items c.put_byte.new.self) ++ byte ∷ []) c.byte_at-2.ensures
    ∙ ap (λ list. list ++ c.args.word / 2 ^ 48 % 256 ∷ []) (c.put_byte.ensures.items ∙ ap (λ byte. g.Self.Room.items c.args.self.now ++ byte ∷ []) c.byte_at.ensures)))))))

pub returns-clause-grown : goal.returns-clause-grown
returns-clause-grown g c =
    let twice = g.met.Self.Room.grown_twice in
    twice _ _ _ c.put_byte.ensures.grown (twice _ _ _ c.put_byte-2.ensures.grown (twice _ _ _ c.put_byte-3.ensures.grown
    (twice _ _ _ c.put_byte-4.ensures.grown (twice _ _ _ c.put_byte-5.ensures.grown (twice _ _ _ c.put_byte-6.ensures.grown
    (twice _ _ _ c.put_byte-7.ensures.grown c.put_byte-8.ensures.grown))))))
